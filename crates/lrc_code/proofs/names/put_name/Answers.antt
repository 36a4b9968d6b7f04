use Rattle.std.proofs.Common.{◌≡◌, ◌+◌, ◌-◌, ◌*◌, ◌<◌, ap, arith, ◌∙◌, sym, subst, min, List, ℤ, length, drop, take, length-drop, ℕ}
use Rattle.std.proofs.lemmas.Int.{ints}
use mir.Syntax.{w64}
use mir.Val.{to_z, of_z}
use Rattle.std.specs.Int.{div_ceil}
use Rattle.lrc_store.specs.Cells.{number, pair, parts, IsWithin}
use Rattle.lrc_code.specs.Forms.{word, words_cell, name_cell}
use Rattle.lrc_code.proofs.Growing.{left-within, builds-as, linked, adds-behind, more-stopped, built, tells-as}
use Rattle.lrc_code.proofs.Words.{word-front, next-words, name-words, all-words}
use Rattle.lrc_code.proofs.names.put_name.Goals as goal

-- the word that a slice of a name gives
slice-word : (bytes : List ℕ) (from to : ℕ) (r : ℤ) → to ≡ min (length bytes) (from + 8) → r ≡ word (take (to - from) (drop from bytes)) → r ≡ word (drop from bytes)
slice-word bytes from to r e f = f ∙ word-front (to - from) (drop from bytes) (let long = length-drop from bytes in omega arith)

-- a word and those behind it belong to the name
pair-within : (name bytes : List ℕ) (words done : ℕ) → bytes ≡ name → words ≡ div_ceil (length bytes) 8 → done < words →
    IsWithin (parts (pair 3 (number (word (drop (8 * (words - 1 - done)) bytes))) (words_cell done (drop (8 * (words - done)) bytes)))) (parts (name_cell name))
pair-within name bytes words done same e h =
    let P : List ℕ → Type 0 = λ b. IsWithin (parts (pair 3 (number (word (drop (8 * (words - 1 - done)) bytes))) (words_cell done (drop (8 * (words - done)) bytes)))) (parts (name_cell b)) in
    subst P same (name-words words done bytes e h)

word-within : (name bytes : List ℕ) (words done : ℕ) → bytes ≡ name → words ≡ div_ceil (length bytes) 8 → done < words →
    IsWithin (parts (number (word (drop (8 * (words - 1 - done)) bytes)))) (parts (name_cell name))
word-within name bytes words done same e h part held =
    pair-within name bytes words done same e h part (left-within 3 (number (word (drop (8 * (words - 1 - done)) bytes))) (words_cell done (drop (8 * (words - done)) bytes)) part held)

pub returns-in_err-word-clause-builds : goal.returns-in_err-word-clause-builds
returns-in_err-word-clause-builds g c =
    let o = g.St.Store.state c.args.store.now in
    let s = g.St.Store.state c.loop-done.store in
    let t = g.St.Store.state c.put_number.new.store in
    let bytes = c.bytes-bytes.result.now in
    let words = c.div_ceil-words.result in
    let done = c.loop-done.done in
    let from = 8 * (words - 1 - done) in
    let fits = c.word_of.type_inv in
    let signed : to_z w64 (of_z w64 c.word_of.result) ≡ c.word_of.result = omega (arith, ints) in
    let item = ap number (signed ∙ slice-word bytes from c.min-to.result c.word_of.result c.min-to.ensures c.word_of.ensures) in
    let within = word-within c.args.name.now bytes words done c.bytes-bytes.ensures.value c.div_ceil-words.ensures c.loop-done-test.true in
    more-stopped o s t (number (word (drop from bytes))) (name_cell c.args.name.now) _ _ within
    c.loop-done.invariant.adds c.from_residual.ensures.0
    (builds-as s t _ _ _ item c.in_err-word.ensures.builds)

pub returns-in_err-rest-clause-builds : goal.returns-in_err-rest-clause-builds
returns-in_err-rest-clause-builds g c =
    let o = g.St.Store.state c.args.store.now in
    let s = g.St.Store.state c.loop-done.store in
    let t = g.St.Store.state c.put_number.new.store in
    let u = g.St.Store.state c.put_pair.new.store in
    let bytes = c.bytes-bytes.result.now in
    let words = c.div_ceil-words.result in
    let done = c.loop-done.done in
    let from = 8 * (words - 1 - done) in
    let fits = c.word_of.type_inv in
    let signed : to_z w64 (of_z w64 c.word_of.result) ≡ c.word_of.result = omega (arith, ints) in
    let item = ap number (signed ∙ slice-word bytes from c.min-to.result c.word_of.result c.min-to.ensures c.word_of.ensures) in
    let whole = pair-within c.args.name.now bytes words done c.bytes-bytes.ensures.value c.div_ceil-words.ensures c.loop-done-test.true in
    more-stopped o s u _ (name_cell c.args.name.now) _ _ whole c.loop-done.invariant.adds c.from_residual-in_err-rest.ensures.0
    (linked s t u 3 c.in_ok-word.word c.loop-done.rest.0 _ _ _ c.loop-done.invariant.tells.stands
    (builds-as s t _ _ _ item c.in_ok-word.ensures.builds) c.in_err-rest.ensures.builds)

pub loop-done-preserved : goal.loop-done-preserved
loop-done-preserved g c =
    let o = g.St.Store.state c.args.store.now in
    let s = g.St.Store.state c.loop-done.store in
    let t = g.St.Store.state c.put_number.new.store in
    let u = g.St.Store.state c.put_pair.new.store in
    let bytes = c.bytes-bytes.result.now in
    let words = c.div_ceil-words.result in
    let done = c.loop-done.done in
    let from = 8 * (words - 1 - done) in
    let fits = c.word_of.type_inv in
    let signed : to_z w64 (of_z w64 c.word_of.result) ≡ c.word_of.result = omega (arith, ints) in
    let item = ap number (signed ∙ slice-word bytes from c.min-to.result c.word_of.result c.min-to.ensures c.word_of.ensures) in
    let whole = pair-within c.args.name.now bytes words done c.bytes-bytes.ensures.value c.div_ceil-words.ensures c.loop-done-test.true in
    let more = linked s t u 3 c.in_ok-word.word c.loop-done.rest.0 _ _ _ c.loop-done.invariant.tells.stands
    (builds-as s t _ _ _ item c.in_ok-word.ensures.builds) c.in_ok-rest.ensures.builds in
    record {
      adds = adds-behind o s u _ (name_cell c.args.name.now) _ whole c.loop-done.invariant.adds more;
      tells = tells-as u c.in_ok-rest.rest.0 _ _ (sym (next-words words done bytes c.loop-done-test.true)) more.ok;
      same_meaning = c.in_ok-rest.ensures.same_meaning ∙ c.in_ok-word.ensures.same_meaning ∙ c.loop-done.invariant.same_meaning;
    }

pub returns-clause-builds : goal.returns-clause-builds
returns-clause-builds g c =
    let o = g.St.Store.state c.args.store.now in
    let s = g.St.Store.state c.loop-done.store in
    let bytes = c.bytes-bytes.result.now in
    let all = all-words c.div_ceil-words.result c.loop-done.done bytes c.div_ceil-words.ensures (omega (arith, c.loop-done-test.false, c.loop-done.auto.done-end)) in
    built o s _ (name_cell c.args.name.now) c.loop-done.rest (all ∙ ap name_cell c.bytes-bytes.ensures.value) c.loop-done.invariant.adds c.loop-done.invariant.tells
