-- `script_command::unread` meets its contract: by why reading stopped, the number is that of the first need not met, and `unsupported` is printed where there is none.
use mathlib.Core.Path.{refl, ◌∙◌, ap}
use Rattle.meaning.specs.Bounds.{SYNTAX, SIZE}
use Rattle.reading.specs.Heard.{stopped}
use Rattle.script_command.proofs.Stopping.{no_form, too_large, unsupported_else, unread_refused}
use native.Mathlib.Omega.{arith}
use Rattle.script_command.proofs.unread.Goals as goal

pub returns-in-Wrong : goal.returns-in-Wrong
returns-in-Wrong c = let args = c.args in λ is.
    unread_refused args.s.now args.to args.counts args.notes args.out.now c.refused-in-Wrong.result SYNTAX (λ e. omega (arith, e))
    (λ l. no_form args.s.now l c.in-Wrong.field-0 (omega (arith, c.in-Some.ensures)) (is ∙ ap stopped c.in-Wrong.is)) c.refused-in-Wrong.ensures

pub returns-in-Size : goal.returns-in-Size
returns-in-Size c = let args = c.args in λ is.
    unread_refused args.s.now args.to args.counts args.notes args.out.now c.refused-in-Size.result SIZE (λ e. omega (arith, e))
    (λ l. too_large args.s.now l c.in-Size.field-0 (omega (arith, c.in-Some.ensures)) (is ∙ ap stopped c.in-Size.is)) c.refused-in-Size.ensures

pub returns-in-Unsupported : goal.returns-in-Unsupported
returns-in-Unsupported c = let args = c.args in
    let wrote = c.print_unsupported.ensures in
    let begins = c.in-Some.ensures in λ is.
    record {
      first_unmet = λ l. unsupported_else args.s.now l c.in-Unsupported.field-0 (omega (arith, begins)) (is ∙ ap stopped c.in-Unsupported.is);
      unsupported = λ done. (c.in-Unsupported.field-0, is ∙ ap stopped c.in-Unsupported.is);
      printed = λ done. (wrote.0, (wrote.1, (begins.0, refl)));
      nothing = λ refused. absurd (refused refl);
      stays = (refl, refl);
    }
