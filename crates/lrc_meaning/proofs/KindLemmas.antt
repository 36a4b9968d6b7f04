-- Kinds that are the same, and the kind of a production's trees.
use Rattle.std.proofs.Common.{◌≡◌, ℕ, true, false, List, Option, Some, None, IsTrue, slice_get, refl, ap}
use Rattle.std.specs.Option.{option_map_or}
use Rattle.std.proofs.lemmas.Bool.{false≢true}
use Rattle.std.proofs.lemmas.Bool.Decides.{Decides-eqb}
use Rattle.lrc_base.specs.declared.grammar.Kind.{Kind}
use Rattle.lrc_base.specs.declared.grammar.Kind.TheVariants as k
use Rattle.lrc_base.specs.declared.grammar.Production.{Production}
use Rattle.lrc_meaning.specs.Tree.{same_kind, is_left}

pub own_kind : (u : Kind) → same_kind u u ≡ true
own_kind k.Int = refl
own_kind k.Bool = refl
own_kind k.Name = refl
own_kind (k.Sort s) = (Decides-eqb s s).1 refl

pub one_kind : (u w : Kind) → same_kind u w ≡ true → u ≡ w
one_kind k.Int k.Int h = refl
one_kind k.Int k.Bool h = absurd (cc)
one_kind k.Int k.Name h = absurd (cc)
one_kind k.Int (k.Sort s) h = absurd (cc)
one_kind k.Bool k.Int h = absurd (cc)
one_kind k.Bool k.Bool h = refl
one_kind k.Bool k.Name h = absurd (cc)
one_kind k.Bool (k.Sort s) h = absurd (cc)
one_kind k.Name k.Int h = absurd (cc)
one_kind k.Name k.Bool h = absurd (cc)
one_kind k.Name k.Name h = refl
one_kind k.Name (k.Sort s) h = absurd (cc)
one_kind (k.Sort r) k.Int h = absurd (cc)
one_kind (k.Sort r) k.Bool h = absurd (cc)
one_kind (k.Sort r) k.Name h = absurd (cc)
one_kind (k.Sort r) (k.Sort s) h = ap k.Sort ((Decides-eqb r s).0 h)

left_over : (o : Option Production) (kind : Kind) → IsTrue (option_map_or (λ (q : Production). same_kind (k.Sort q.left) kind) o false)
    → (q : Production) × (o ≡ Some q) × (k.Sort q.left ≡ kind)
left_over None kind h = absurd (false≢true h)
left_over (Some q) kind h = (q, refl, one_kind (k.Sort q.left) kind h)

-- a tree of a kind has a production whose left side is that kind's sort
pub left_kind : (prods : List Production) (p : ℕ) (kind : Kind) → IsTrue (is_left prods p kind)
    → (q : Production) × (slice_get prods p ≡ Some q) × (k.Sort q.left ≡ kind)
left_kind prods p kind h = left_over (slice_get prods p) kind h
