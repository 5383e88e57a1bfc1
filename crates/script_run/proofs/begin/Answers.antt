-- `script_run::begin` meets its contract: each test is one case; a token that is not the end stands in the text.
use mathlib.Core.Path.{sym, ap, ◌∙◌}
use native.Mathlib.Omega.{arith}
use denote.Enum.Bare.{same_true, same_false}
use Rattle.text.specs.contracts.Kind.{the_type}
use Rattle.text.specs.declared.Kind.{Kind}
use Rattle.text.specs.Lexicon.{Tok}
use Rattle.text.specs.Numbered.{code_of, numbered}
use Rattle.reading.proofs.Standing.{same_kind}
use Rattle.script_run.specs.Stepping.{Halts}
use Rattle.script_run.proofs.Beginning.{begun}
use Rattle.script_run.proofs.begin.Goals as goal
use Rattle.script_run.proofs.begin.Goals.{then-len-to-via-then-len-to, then-len-to-via-else-len-to+then-len-to-lt-ROOM}

pub returns-then-eq : goal.returns-then-eq
returns-then-eq c = Halts.over_there (ap (λ (t : Tok). t.kind) (sym c.token-t.ensures) ∙ ap code_of (same_true the_type tt c.token-t.result.kind Kind.End (sym c.eq.ensures ∙ c.if-eq.true)))

pub returns-then-len-to : goal.returns-then-len-to
returns-then-len-to c = Halts.short_there (λ e. same_false the_type c.token-t.result.kind Kind.End (sym c.eq.ensures ∙ c.if-eq.false) (same_kind c.token-t.result.kind Kind.End (ap (λ (t : Tok). t.kind) c.token-t.ensures ∙ e)))
    (elim c.then-len-to.branch [
      | then-len-to-via-then-len-to w ↦ omega (arith, w.if-len-to.true)
      | then-len-to-via-else-len-to+then-len-to-lt-ROOM w ↦ omega (arith, w.if-len-to.false, w.if-len-to-lt-ROOM.true)
    ])

pub returns : goal.returns
returns c = begun c.args.s.now c.args.at c.args.len c.args.to (numbered c.token-t.result) c.token-t.ensures
    (λ e. same_false the_type c.token-t.result.kind Kind.End (sym c.eq.ensures ∙ c.if-eq.false) (same_kind c.token-t.result.kind Kind.End e)) (omega (arith, c.if-len-to.false, c.if-len-to-lt-ROOM.false))
