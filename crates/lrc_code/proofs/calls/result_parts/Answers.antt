use Rattle.std.proofs.Common.{◌≡◌, ◌∙◌, ℕ, ℤ, ◌-◌, ◌^◌, min, sym, ap, arith}
use Rattle.std.proofs.lemmas.Int.{ints}
use mir.Syntax.{w64}
use mir.Val.{to_z, of_z}
use lib.IntN.{pos}
use Rattle.lrc_store.specs.Cells.{CellTree, number, pair}
use Rattle.lrc_code.specs.Forms.{result_cell}
use Rattle.lrc_code.specs.Reading.{HasHeight}
use Rattle.lrc_store.proofs.Known.{kept-meant}
use Rattle.lrc_store.proofs.Lasting.{reads-then}
use Rattle.lrc_code.proofs.calls.result_parts.Goals as goal

-- the number of the left side
height-is : (tag h : ℕ) (n : ℤ) (right other : CellTree) → pair tag (number n) right ≡ pair 6 (number (pos h)) other → n ≡ pos h
height-is tag h n right other e = cc

-- the lists of the right side
lists-are : (tag inner h : ℕ) (left s b t d : CellTree) → pair tag left (pair inner s b) ≡ pair 6 (number (pos h)) (pair 5 t d) → pair 6 (number (pos h)) (pair 5 t d) ≡ pair 6 (number (pos h)) (pair 5 s b)
lists-are tag inner h left s b t d e = cc

result-is : (tag inner h read : ℕ) (n : ℤ) (cell left right s b t d : CellTree) → cell ≡ pair tag left right → left ≡ number n → right ≡ pair inner s b →
    cell ≡ result_cell h t d → ((height : ℕ) → n ≡ pos height → read ≡ min height (2 ^ 32 - 1)) → HasHeight cell read s b
result-is tag inner h read n cell left right s b t d whole l r is reads =
    let both = sym whole ∙ is in
    let first = ap (λ x. pair tag x right) (sym l) ∙ both in
    let second = ap (λ x. pair tag left x) (sym r) ∙ both in
    (h, reads h (height-is tag h n right (pair 5 t d) first), is ∙ lists-are tag inner h left s b t d second)

pub returns-clause-parts : goal.returns-clause-parts
returns-clause-parts g c =
    let s = g.St.Store.state c.sides_of-whole.new.store in
    let t = g.St.Store.state c.number_of-number.new.store in
    let whole = c.sides_of-whole.ensures.sides in
    let lists = c.sides_of-lists.ensures.sides in
    let stays = kept-meant s t c.sides_of-whole.result.right.0 c.number_of-number.ensures.reads.stays.lasts.known whole.right in
    let outcome = c.requires.outcome in
    let fits = c.number_of-number.type_inv in
    let again : to_z w64 (of_z w64 c.number_of-number.result) ≡ c.number_of-number.result = omega (arith, ints, fits) in
    record {
      synthesised = lists.left;
      bindings = lists.right;
      whole = result-is _ _ outcome.0 c.height_in.result c.number_of-number.result _ _ _ _ _ outcome.1 outcome.2 whole.whole c.number_of-number.ensures.value (sym stays ∙ lists.whole) outcome.3 (λ height e. c.height_in.ensures height (again ∙ e));
    }

pub returns-clause-reads : goal.returns-clause-reads
returns-clause-reads g c =
    let s = g.St.Store.state c.sides_of-whole.new.store in
    let t = g.St.Store.state c.number_of-number.new.store in
    reads-then _ s _ c.sides_of-whole.ensures.reads (reads-then s t _ c.number_of-number.ensures.reads c.sides_of-lists.ensures.reads)
