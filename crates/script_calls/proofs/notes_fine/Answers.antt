-- `script_calls::notes_fine` meets its contract: what is needed is tested one after the other.
use native.Mathlib.Omega.{arith}
use mathlib.Core.Path.{refl, sym, ◌∙◌}
use mathlib.Core.Bool.{true≢false}
use Rattle.lent.specs.Decides.{decides_no, decides_yes}
use Rattle.script_calls.proofs.notes_fine.Goals as goal

pub returns-then-counts-ne-STEPS : goal.returns-then-counts-ne-STEPS
returns-then-counts-ne-STEPS c = decides_no refl (λ h. c.if-counts-ne-STEPS.true h.all_steps)

pub returns-then-notes-gt-STEPS : goal.returns-then-notes-gt-STEPS
returns-then-notes-gt-STEPS c = decides_no refl (λ h. omega (arith, h.names_in, c.if-notes-gt-STEPS.true))

pub returns-then-counts-notes : goal.returns-then-counts-notes
returns-then-counts-notes c = decides_no refl (λ h. omega (arith, h.level_open, c.if-counts-notes.true))

pub returns-then-notes-eq0 : goal.returns-then-notes-eq0
returns-then-notes-eq0 c = let if1 = c.if-counts-ne-STEPS in
    decides_yes refl (record { all_steps = if1.false; names_in = omega (arith, c.if-notes-gt-STEPS.false); level_open = omega (arith, c.if-counts-notes.false); no_sat = λ no. absurd (no c.if-notes-eq0.true) })

pub returns-then-notes : goal.returns-then-notes
returns-then-notes c = decides_no refl (λ h. true≢false (sym c.if-notes.true ∙ h.no_sat c.if-notes-eq0.false))

pub returns : goal.returns
returns c = let if1 = c.if-counts-ne-STEPS in
    decides_yes refl (record { all_steps = if1.false; names_in = omega (arith, c.if-notes-gt-STEPS.false); level_open = omega (arith, c.if-counts-notes.false); no_sat = λ no. c.if-notes.false })
