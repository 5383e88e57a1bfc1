use mathlib.Core.Path.{refl, sym, ap, ◌∙◌}
use Prim.Native.Nat.{◌+◌}
use denote.Enum.Bare.{same_true, same_false}
use Rattle.text.specs.contracts.Kind.{the_type}
use Rattle.text.specs.declared.Kind.{Kind}
use Rattle.text.specs.Lexicon.{Tok}
use Rattle.text.specs.Numbered.{code_of, numbered}
use Rattle.reading.specs.Reading.{Why, Read, expect_name}
use Rattle.reading.specs.Heard.{noted_as}
use Rattle.reading.proofs.Standing.{same_kind}
use Rattle.reading.proofs.Steps.{read_as, read_some, halted, came_to}
use Rattle.reading.proofs.Keeping.{kept_same, kept_more}
use Rattle.reading.proofs.Made.{step_within}
use Rattle.reading.proofs.Asking.{going_first, no_name, too_many, done', counted', noted', listed', last_name, going_on}
use Rattle.reading.proofs.reader.Reader.asked.Goals as goal

pub loop-k-init : goal.loop-k-init
loop-k-init c = let names = c.args.self.now.names in
    record {
      kept = kept_same _;
      counted = c.requires.none;
      going = rw c.requires.no_fault (going_first names.count names.letters.now names.lens.now c.args.self.now.text.now c.args.at c.args.rows.now.xs.now);
    }

pub put_name-requires-clause-step_in : goal.put_name-requires-clause-step_in
put_name-requires-clause-step_in c = let s = c.args.self.now.text.now in
    let names = c.args.self.now.names in
    let l = c.loop-k in
    let g = l.invariant.going in
    let read = read_as (expect_name s l.i) _ c.in_ok-step.past c.in_ok-step.ensures in
    step_within names.count names.letters.now names.lens.now names.shelved.names_in _ c.in_ok-step.step read.1.1

pub returns-in_err-step-clause-heard : goal.returns-in_err-step-clause-heard
returns-in_err-step-clause-heard c = let s = c.args.self.now.text.now in
    let names = c.args.self.now.names in
    let l = c.loop-k in
    let g = l.invariant.going in
    halted _ _ _ _ c.from_residual.ensures.1 (λ y h. h) (no_name names.count names.letters.now names.lens.now s c.args.at l.i l.k _ _ g _ c.in_err-step.ensures)

pub returns-in_err-step-clause-kept : goal.returns-in_err-step-clause-kept
returns-in_err-step-clause-kept c = c.loop-k.invariant.kept

pub returns-then-eq-clause-heard : goal.returns-then-eq-clause-heard
returns-then-eq-clause-heard c = let s = c.args.self.now.text.now in
    let names = c.args.self.now.names in
    let l = c.loop-k in
    let g = l.invariant.going in
    let read = read_as (expect_name s l.i) _ c.in_ok-step.past c.in_ok-step.ensures in
    let put = c.put_name.ensures.put in
    let closes = ap code_of (same_true the_type tt c.token-t.result.kind Kind.Close (sym c.eq.ensures ∙ c.if-eq.true)) in
    came_to _ _ (done' names.count names.letters.now names.lens.now s c.args.at l.i l.k (noted_as l.rows.fault) l.rows.xs.now g read.0 c.in_ok-step.past read.1.0 c.loop-k-test.true c.in_ok-step.step read.1.1 (noted_as c.put_name.new.self.fault) c.put_name.new.self.xs.now put.fault_stays put.fault_first (rw l.invariant.counted at put.written) (rw l.invariant.counted at put.others_stay) (numbered c.token-t.result) c.token-t.ensures.told) c.token-t.result.to
    (last_name names.count names.letters.now names.lens.now s c.args.at l.i l.k (noted_as l.rows.fault) l.rows.xs.now g read.0 c.in_ok-step.past read.1.0 c.loop-k-test.true c.in_ok-step.step read.1.1 (noted_as c.put_name.new.self.fault) c.put_name.new.self.xs.now put.fault_stays put.fault_first (rw l.invariant.counted at put.written) (rw l.invariant.counted at put.others_stay) (numbered c.token-t.result) c.token-t.ensures.told closes) (
      refl,
      record {
        counted = put.counted ∙ ap (λ j. j + 1) l.invariant.counted ∙ sym (counted' names.count names.letters.now names.lens.now s c.args.at l.i l.k (noted_as l.rows.fault) l.rows.xs.now g read.0 c.in_ok-step.past read.1.0 c.loop-k-test.true c.in_ok-step.step read.1.1 (noted_as c.put_name.new.self.fault) c.put_name.new.self.xs.now put.fault_stays put.fault_first (rw l.invariant.counted at put.written) (rw l.invariant.counted at put.others_stay) (numbered c.token-t.result) c.token-t.ensures.told);
        fault_first = noted' names.count names.letters.now names.lens.now s c.args.at l.i l.k (noted_as l.rows.fault) l.rows.xs.now g read.0 c.in_ok-step.past read.1.0 c.loop-k-test.true c.in_ok-step.step read.1.1 (noted_as c.put_name.new.self.fault) c.put_name.new.self.xs.now put.fault_stays put.fault_first (rw l.invariant.counted at put.written) (rw l.invariant.counted at put.others_stay) (numbered c.token-t.result) c.token-t.ensures.told;
        listed = listed' names.count names.letters.now names.lens.now s c.args.at l.i l.k (noted_as l.rows.fault) l.rows.xs.now g read.0 c.in_ok-step.past read.1.0 c.loop-k-test.true c.in_ok-step.step read.1.1 (noted_as c.put_name.new.self.fault) c.put_name.new.self.xs.now put.fault_stays put.fault_first (rw l.invariant.counted at put.written) (rw l.invariant.counted at put.others_stay) (numbered c.token-t.result) c.token-t.ensures.told;
      },
    )

pub loop-k-preserved : goal.loop-k-preserved
loop-k-preserved c = let s = c.args.self.now.text.now in
    let names = c.args.self.now.names in
    let l = c.loop-k in
    let g = l.invariant.going in
    let read = read_as (expect_name s l.i) _ c.in_ok-step.past c.in_ok-step.ensures in
    let put = c.put_name.ensures.put in
    record {
      kept = kept_more _ _ _ l.invariant.kept c.put_name.ensures.kept;
      counted = put.counted ∙ ap (λ j. j + 1) l.invariant.counted;
      going = going_on names.count names.letters.now names.lens.now s c.args.at l.i l.k (noted_as l.rows.fault) l.rows.xs.now g read.0 c.in_ok-step.past read.1.0 c.loop-k-test.true c.in_ok-step.step read.1.1 (noted_as c.put_name.new.self.fault) c.put_name.new.self.xs.now put.fault_stays put.fault_first (rw l.invariant.counted at put.written) (rw l.invariant.counted at put.others_stay) (numbered c.token-t.result) c.token-t.ensures.told
          (λ z. same_false the_type c.token-t.result.kind Kind.Close (sym c.eq.ensures ∙ c.if-eq.false) (same_kind c.token-t.result.kind Kind.Close z));
    }

pub returns-in_err-name-clause-heard : goal.returns-in_err-name-clause-heard
returns-in_err-name-clause-heard c = let s = c.args.self.now.text.now in
    let names = c.args.self.now.names in
    let l = c.loop-k in
    let g = l.invariant.going in
    halted _ _ _ _ c.from_residual-in_err-name.ensures.1 (λ y h. h) (no_name names.count names.letters.now names.lens.now s c.args.at l.i l.k _ _ g _ c.in_err-name.ensures)

pub returns-clause-heard : goal.returns-clause-heard
returns-clause-heard c = let s = c.args.self.now.text.now in
    let names = c.args.self.now.names in
    let l = c.loop-k in
    let g = l.invariant.going in
    let read = read_some (expect_name s l.i) _ c.in_ok-name.ensures in
    too_many names.count names.letters.now names.lens.now s c.args.at l.i l.k _ _ g read.0 read.1.0 read.1.1 c.loop-k-test.false
    ∙ ap (λ (u : Tok). Read.stop Why.size u.from) (sym c.token-over.ensures.told)
