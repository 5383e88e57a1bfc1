-- `reading::atom::Atom::turned` meets its contract: by the answers of its two tests.
use mathlib.Core.Path.{◌≡◌, refl, sym, ap, ◌∙◌}
use mathlib.Core.Bool.{not, beq, cond, ◌||◌}
use lib.IntN.{ℤ, pos, ◌-ℤ◌}
use Rattle.words.specs.Words.{W_above, W_below, W_at_least}
use Rattle.reading.specs.declared.atom.Atom.{Atom}
use Rattle.reading.specs.Parts.{AtomSmall, flips, lessens, swapped}
use Rattle.reading.proofs.Steps.{cond_true, cond_false}
use Rattle.reading.proofs.Atoms.{tested, turned_is, small_chosen, lowered_is}
use Rattle.reading.proofs.atom.Atom.turned.Goals as goal
use Rattle.reading.proofs.atom.Atom.turned.Goals.{then-flip, else-flip}

pub returns-then-less : goal.returns-then-less
returns-then-less c =
    let w = c.args.operator.now in
    let odd = c.args.odd in
    let a = c.args.self in
    let f = not (beq (c.eq-above.result || c.eq-back.result) odd) in
    let l = not (beq (c.eq-above.result || c.eq-below.result) odd) in
    let f-is : f ≡ flips w odd = tested w W_above W_at_least _ _ odd c.eq-above.result c.eq-back.result c.eq-above.ensures c.as_slice.ensures c.eq-back.ensures c.as_slice-3.ensures in
    let l-is : l ≡ lessens w odd = tested w W_above W_below _ _ odd c.eq-above.result c.eq-below.result c.eq-above.ensures c.as_slice.ensures c.eq-below.ensures c.as_slice-2.ensures in
    let b : Atom = cond f (swapped a) a in
    let atom : c.if-flip.atom ≡ b = elim c.if-flip.branch [
      | then-flip k ↦ k.atom-is ∙ k.swapped-atom.ensures ∙ sym (cond_true f (swapped a) a k.if-flip.true)
      | else-flip k ↦ k.atom-is ∙ sym (cond_false f (swapped a) a k.if-flip.false)
    ] in
    let small : AtomSmall c.if-flip.atom = rw atom (small_chosen f a c.requires) in
    ap (λ (z : ℤ). record c.if-flip.atom { amount = z }) (lowered_is c.if-flip.atom small _ refl)
    ∙ ap (λ (x : Atom). record x { amount = (x.amount -ℤ pos 1) }) atom
    ∙ sym (turned_is w odd a f l f-is l-is ∙ cond_true l _ b c.if-less.true)

pub returns-else-less : goal.returns-else-less
returns-else-less c =
    let w = c.args.operator.now in
    let odd = c.args.odd in
    let a = c.args.self in
    let f = not (beq (c.eq-above.result || c.eq-back.result) odd) in
    let l = not (beq (c.eq-above.result || c.eq-below.result) odd) in
    let f-is : f ≡ flips w odd = tested w W_above W_at_least _ _ odd c.eq-above.result c.eq-back.result c.eq-above.ensures c.as_slice.ensures c.eq-back.ensures c.as_slice-3.ensures in
    let l-is : l ≡ lessens w odd = tested w W_above W_below _ _ odd c.eq-above.result c.eq-below.result c.eq-above.ensures c.as_slice.ensures c.eq-below.ensures c.as_slice-2.ensures in
    let b : Atom = cond f (swapped a) a in
    let atom : c.if-flip.atom ≡ b = elim c.if-flip.branch [
      | then-flip k ↦ k.atom-is ∙ k.swapped-atom.ensures ∙ sym (cond_true f (swapped a) a k.if-flip.true)
      | else-flip k ↦ k.atom-is ∙ sym (cond_false f (swapped a) a k.if-flip.false)
    ] in
    atom ∙ sym (turned_is w odd a f l f-is l-is ∙ cond_false l _ b c.if-less.false)
