-- The command by its name: the names are tried one after another, as the grammar tries them, and each command's rest is read by its own reader.
use mathlib.Core.Path.{refl, sym, ap, ◌∙◌}
use Rattle.std.specs.Prelude.{None}
use Rattle.text.specs.Lexicon.{NUMERAL, same_bytes}
use Rattle.text.specs.Numbered.{numbered}
use Rattle.words.specs.Words.{W_assert, W_declare_fun, W_check_sat, W_push, W_pop, W_get_value, W_set_logic, W_exit, W_QF_IDL}
use Rattle.reading.specs.declared.Kind.{Kind}
use Rattle.reading.specs.Tree.{Command}
use Rattle.reading.specs.Reading.{lexeme, expect, expect_word, closed}
use Rattle.reading.specs.Rows.{columns_of}
use Rattle.reading.proofs.Standing.{equal_words}
use Rattle.reading.proofs.Steps.{read_to, read_as, goes_on, halts, halted, hears_as, cond_false, heard_yes, heard_no}
use Rattle.reading.proofs.Closing.{ended}
use Rattle.reading.proofs.reader.Reader.headed.Goals as goal

pub returns-then-eq-clause-heard : goal.returns-then-eq-clause-heard
returns-then-eq-clause-heard c = let s = c.args.self.now.text.now in
    let t = c.args.t in
    let w = lexeme s (numbered t) in
    let n = c.args.self.now.names.count in
    let names = c.args.self.now.names.letters.now in
    let lens = c.args.self.now.names.lens.now in
    let rows = columns_of c.args.rows.now in
    heard_yes _ _ _ _ _ c.eq.result (equal_words c.eq.result _ w _ W_assert c.eq.ensures c.lexeme-name.ensures c.as_slice.ensures) c.if-eq.true
    (c.assert.ensures.heard)

pub returns-then-eq-2-clause-heard : goal.returns-then-eq-2-clause-heard
returns-then-eq-2-clause-heard c = let s = c.args.self.now.text.now in
    let t = c.args.t in
    let w = lexeme s (numbered t) in
    let n = c.args.self.now.names.count in
    let names = c.args.self.now.names.letters.now in
    let lens = c.args.self.now.names.lens.now in
    let rows = columns_of c.args.rows.now in
    heard_no _ _ _ _ _ c.eq.result (equal_words c.eq.result _ w _ W_assert c.eq.ensures c.lexeme-name.ensures c.as_slice.ensures) c.if-eq.false
    (heard_yes _ _ _ _ _ c.eq-2.result (equal_words c.eq-2.result _ w _ W_declare_fun c.eq-2.ensures c.lexeme-name.ensures c.as_slice-2.ensures) c.if-eq-2.true
    (c.declare.ensures rows))

pub returns-then-eq-3-clause-heard : goal.returns-then-eq-3-clause-heard
returns-then-eq-3-clause-heard c = let s = c.args.self.now.text.now in
    let t = c.args.t in
    let w = lexeme s (numbered t) in
    let n = c.args.self.now.names.count in
    let names = c.args.self.now.names.letters.now in
    let lens = c.args.self.now.names.lens.now in
    let rows = columns_of c.args.rows.now in
    heard_no _ _ _ _ _ c.eq.result (equal_words c.eq.result _ w _ W_assert c.eq.ensures c.lexeme-name.ensures c.as_slice.ensures) c.if-eq.false
    (heard_no _ _ _ _ _ c.eq-2.result (equal_words c.eq-2.result _ w _ W_declare_fun c.eq-2.ensures c.lexeme-name.ensures c.as_slice-2.ensures) c.if-eq-2.false
    (heard_yes _ _ _ _ _ c.eq-3.result (equal_words c.eq-3.result _ w _ W_check_sat c.eq-3.ensures c.lexeme-name.ensures c.as_slice-3.ensures) c.if-eq-3.true
    (ended s t.to Command.check_sat Kind.CheckSat None n names lens rows _ (c.end.ensures Command.check_sat) (record { kind_is = refl; fault_first = refl; holding = λ z. tt }))))

pub returns-in_err-levels-clause-heard : goal.returns-in_err-levels-clause-heard
returns-in_err-levels-clause-heard c = let s = c.args.self.now.text.now in
    let t = c.args.t in
    let w = lexeme s (numbered t) in
    let n = c.args.self.now.names.count in
    let names = c.args.self.now.names.letters.now in
    let lens = c.args.self.now.names.lens.now in
    let rows = columns_of c.args.rows.now in
    heard_no _ _ _ _ _ c.eq.result (equal_words c.eq.result _ w _ W_assert c.eq.ensures c.lexeme-name.ensures c.as_slice.ensures) c.if-eq.false
    (heard_no _ _ _ _ _ c.eq-2.result (equal_words c.eq-2.result _ w _ W_declare_fun c.eq-2.ensures c.lexeme-name.ensures c.as_slice-2.ensures) c.if-eq-2.false
    (heard_no _ _ _ _ _ c.eq-3.result (equal_words c.eq-3.result _ w _ W_check_sat c.eq-3.ensures c.lexeme-name.ensures c.as_slice-3.ensures) c.if-eq-3.false
    (heard_yes _ _ _ _ _ c.eq-4.result (equal_words c.eq-4.result _ w _ W_push c.eq-4.ensures c.lexeme-name.ensures c.as_slice-4.ensures) c.if-eq-4.true
    (halted _ _ _ _ c.from_residual.ensures.1 (λ y h. h) (halts (expect NUMERAL s t.to) _ _ c.in_err-levels.ensures.heard)))))

pub returns-then-eq-4-clause-heard : goal.returns-then-eq-4-clause-heard
returns-then-eq-4-clause-heard c = let s = c.args.self.now.text.now in
    let t = c.args.t in
    let w = lexeme s (numbered t) in
    let n = c.args.self.now.names.count in
    let names = c.args.self.now.names.letters.now in
    let lens = c.args.self.now.names.lens.now in
    let rows = columns_of c.args.rows.now in
    let read = read_as (expect NUMERAL s t.to) _ c.in_ok-levels.r c.in_ok-levels.ensures.heard in
    heard_no _ _ _ _ _ c.eq.result (equal_words c.eq.result _ w _ W_assert c.eq.ensures c.lexeme-name.ensures c.as_slice.ensures) c.if-eq.false
    (heard_no _ _ _ _ _ c.eq-2.result (equal_words c.eq-2.result _ w _ W_declare_fun c.eq-2.ensures c.lexeme-name.ensures c.as_slice-2.ensures) c.if-eq-2.false
    (heard_no _ _ _ _ _ c.eq-3.result (equal_words c.eq-3.result _ w _ W_check_sat c.eq-3.ensures c.lexeme-name.ensures c.as_slice-3.ensures) c.if-eq-3.false
    (heard_yes _ _ _ _ _ c.eq-4.result (equal_words c.eq-4.result _ w _ W_push c.eq-4.ensures c.lexeme-name.ensures c.as_slice-4.ensures) c.if-eq-4.true
    (hears_as _ (closed s (Command.push read.0) c.in_ok-levels.r) _ _ (goes_on (expect NUMERAL s t.to) _ read.0 c.in_ok-levels.r read.1.0)
    (ended s c.in_ok-levels.r (Command.push read.0) (Kind.Push c.in_ok-levels.levels) None n names lens rows _ (c.end-then-eq-4.ensures (Command.push read.0)) (record { kind_is = ap Kind.Push read.1.1; fault_first = refl; holding = λ z. tt }))))))

pub returns-in_err-levels-2-clause-heard : goal.returns-in_err-levels-2-clause-heard
returns-in_err-levels-2-clause-heard c = let s = c.args.self.now.text.now in
    let t = c.args.t in
    let w = lexeme s (numbered t) in
    let n = c.args.self.now.names.count in
    let names = c.args.self.now.names.letters.now in
    let lens = c.args.self.now.names.lens.now in
    let rows = columns_of c.args.rows.now in
    heard_no _ _ _ _ _ c.eq.result (equal_words c.eq.result _ w _ W_assert c.eq.ensures c.lexeme-name.ensures c.as_slice.ensures) c.if-eq.false
    (heard_no _ _ _ _ _ c.eq-2.result (equal_words c.eq-2.result _ w _ W_declare_fun c.eq-2.ensures c.lexeme-name.ensures c.as_slice-2.ensures) c.if-eq-2.false
    (heard_no _ _ _ _ _ c.eq-3.result (equal_words c.eq-3.result _ w _ W_check_sat c.eq-3.ensures c.lexeme-name.ensures c.as_slice-3.ensures) c.if-eq-3.false
    (heard_no _ _ _ _ _ c.eq-4.result (equal_words c.eq-4.result _ w _ W_push c.eq-4.ensures c.lexeme-name.ensures c.as_slice-4.ensures) c.if-eq-4.false
    (heard_yes _ _ _ _ _ c.eq-5.result (equal_words c.eq-5.result _ w _ W_pop c.eq-5.ensures c.lexeme-name.ensures c.as_slice-5.ensures) c.if-eq-5.true
    (halted _ _ _ _ c.from_residual-in_err-levels-2.ensures.1 (λ y h. h) (halts (expect NUMERAL s t.to) _ _ c.in_err-levels-2.ensures.heard))))))

pub returns-then-eq-5-clause-heard : goal.returns-then-eq-5-clause-heard
returns-then-eq-5-clause-heard c = let s = c.args.self.now.text.now in
    let t = c.args.t in
    let w = lexeme s (numbered t) in
    let n = c.args.self.now.names.count in
    let names = c.args.self.now.names.letters.now in
    let lens = c.args.self.now.names.lens.now in
    let rows = columns_of c.args.rows.now in
    let read = read_as (expect NUMERAL s t.to) _ c.in_ok-levels-2.r c.in_ok-levels-2.ensures.heard in
    heard_no _ _ _ _ _ c.eq.result (equal_words c.eq.result _ w _ W_assert c.eq.ensures c.lexeme-name.ensures c.as_slice.ensures) c.if-eq.false
    (heard_no _ _ _ _ _ c.eq-2.result (equal_words c.eq-2.result _ w _ W_declare_fun c.eq-2.ensures c.lexeme-name.ensures c.as_slice-2.ensures) c.if-eq-2.false
    (heard_no _ _ _ _ _ c.eq-3.result (equal_words c.eq-3.result _ w _ W_check_sat c.eq-3.ensures c.lexeme-name.ensures c.as_slice-3.ensures) c.if-eq-3.false
    (heard_no _ _ _ _ _ c.eq-4.result (equal_words c.eq-4.result _ w _ W_push c.eq-4.ensures c.lexeme-name.ensures c.as_slice-4.ensures) c.if-eq-4.false
    (heard_yes _ _ _ _ _ c.eq-5.result (equal_words c.eq-5.result _ w _ W_pop c.eq-5.ensures c.lexeme-name.ensures c.as_slice-5.ensures) c.if-eq-5.true
    (hears_as _ (closed s (Command.pop read.0) c.in_ok-levels-2.r) _ _ (goes_on (expect NUMERAL s t.to) _ read.0 c.in_ok-levels-2.r read.1.0)
    (ended s c.in_ok-levels-2.r (Command.pop read.0) (Kind.Pop c.in_ok-levels-2.levels) None n names lens rows _ (c.end-then-eq-5.ensures (Command.pop read.0)) (record { kind_is = ap Kind.Pop read.1.1; fault_first = refl; holding = λ z. tt })))))))

pub returns-then-eq-6-clause-heard : goal.returns-then-eq-6-clause-heard
returns-then-eq-6-clause-heard c = let s = c.args.self.now.text.now in
    let t = c.args.t in
    let w = lexeme s (numbered t) in
    let n = c.args.self.now.names.count in
    let names = c.args.self.now.names.letters.now in
    let lens = c.args.self.now.names.lens.now in
    let rows = columns_of c.args.rows.now in
    heard_no _ _ _ _ _ c.eq.result (equal_words c.eq.result _ w _ W_assert c.eq.ensures c.lexeme-name.ensures c.as_slice.ensures) c.if-eq.false
    (heard_no _ _ _ _ _ c.eq-2.result (equal_words c.eq-2.result _ w _ W_declare_fun c.eq-2.ensures c.lexeme-name.ensures c.as_slice-2.ensures) c.if-eq-2.false
    (heard_no _ _ _ _ _ c.eq-3.result (equal_words c.eq-3.result _ w _ W_check_sat c.eq-3.ensures c.lexeme-name.ensures c.as_slice-3.ensures) c.if-eq-3.false
    (heard_no _ _ _ _ _ c.eq-4.result (equal_words c.eq-4.result _ w _ W_push c.eq-4.ensures c.lexeme-name.ensures c.as_slice-4.ensures) c.if-eq-4.false
    (heard_no _ _ _ _ _ c.eq-5.result (equal_words c.eq-5.result _ w _ W_pop c.eq-5.ensures c.lexeme-name.ensures c.as_slice-5.ensures) c.if-eq-5.false
    (heard_yes _ _ _ _ _ c.eq-6.result (equal_words c.eq-6.result _ w _ W_get_value c.eq-6.ensures c.lexeme-name.ensures c.as_slice-6.ensures) c.if-eq-6.true
    (c.get_value.ensures.heard))))))

pub returns-in_err-r-clause-heard : goal.returns-in_err-r-clause-heard
returns-in_err-r-clause-heard c = let s = c.args.self.now.text.now in
    let t = c.args.t in
    let w = lexeme s (numbered t) in
    let n = c.args.self.now.names.count in
    let names = c.args.self.now.names.letters.now in
    let lens = c.args.self.now.names.lens.now in
    let rows = columns_of c.args.rows.now in
    heard_no _ _ _ _ _ c.eq.result (equal_words c.eq.result _ w _ W_assert c.eq.ensures c.lexeme-name.ensures c.as_slice.ensures) c.if-eq.false
    (heard_no _ _ _ _ _ c.eq-2.result (equal_words c.eq-2.result _ w _ W_declare_fun c.eq-2.ensures c.lexeme-name.ensures c.as_slice-2.ensures) c.if-eq-2.false
    (heard_no _ _ _ _ _ c.eq-3.result (equal_words c.eq-3.result _ w _ W_check_sat c.eq-3.ensures c.lexeme-name.ensures c.as_slice-3.ensures) c.if-eq-3.false
    (heard_no _ _ _ _ _ c.eq-4.result (equal_words c.eq-4.result _ w _ W_push c.eq-4.ensures c.lexeme-name.ensures c.as_slice-4.ensures) c.if-eq-4.false
    (heard_no _ _ _ _ _ c.eq-5.result (equal_words c.eq-5.result _ w _ W_pop c.eq-5.ensures c.lexeme-name.ensures c.as_slice-5.ensures) c.if-eq-5.false
    (heard_no _ _ _ _ _ c.eq-6.result (equal_words c.eq-6.result _ w _ W_get_value c.eq-6.ensures c.lexeme-name.ensures c.as_slice-6.ensures) c.if-eq-6.false
    (heard_yes _ _ _ _ _ c.eq-7.result (equal_words c.eq-7.result _ w _ W_set_logic c.eq-7.ensures c.lexeme-name.ensures c.as_slice-7.ensures) c.if-eq-7.true
    (halted _ _ _ _ c.from_residual-in_err-r.ensures.1 (λ y h. h) (halts (expect_word W_QF_IDL s t.to) _ _ c.in_err-r.ensures))))))))

pub returns-then-eq-7-clause-heard : goal.returns-then-eq-7-clause-heard
returns-then-eq-7-clause-heard c = let s = c.args.self.now.text.now in
    let t = c.args.t in
    let w = lexeme s (numbered t) in
    let n = c.args.self.now.names.count in
    let names = c.args.self.now.names.letters.now in
    let lens = c.args.self.now.names.lens.now in
    let rows = columns_of c.args.rows.now in
    let read = read_to (expect_word W_QF_IDL s t.to) c.in_ok-r.r c.in_ok-r.ensures in
    heard_no _ _ _ _ _ c.eq.result (equal_words c.eq.result _ w _ W_assert c.eq.ensures c.lexeme-name.ensures c.as_slice.ensures) c.if-eq.false
    (heard_no _ _ _ _ _ c.eq-2.result (equal_words c.eq-2.result _ w _ W_declare_fun c.eq-2.ensures c.lexeme-name.ensures c.as_slice-2.ensures) c.if-eq-2.false
    (heard_no _ _ _ _ _ c.eq-3.result (equal_words c.eq-3.result _ w _ W_check_sat c.eq-3.ensures c.lexeme-name.ensures c.as_slice-3.ensures) c.if-eq-3.false
    (heard_no _ _ _ _ _ c.eq-4.result (equal_words c.eq-4.result _ w _ W_push c.eq-4.ensures c.lexeme-name.ensures c.as_slice-4.ensures) c.if-eq-4.false
    (heard_no _ _ _ _ _ c.eq-5.result (equal_words c.eq-5.result _ w _ W_pop c.eq-5.ensures c.lexeme-name.ensures c.as_slice-5.ensures) c.if-eq-5.false
    (heard_no _ _ _ _ _ c.eq-6.result (equal_words c.eq-6.result _ w _ W_get_value c.eq-6.ensures c.lexeme-name.ensures c.as_slice-6.ensures) c.if-eq-6.false
    (heard_yes _ _ _ _ _ c.eq-7.result (equal_words c.eq-7.result _ w _ W_set_logic c.eq-7.ensures c.lexeme-name.ensures c.as_slice-7.ensures) c.if-eq-7.true
    (hears_as _ (closed s Command.set_logic c.in_ok-r.r) _ _ (goes_on (expect_word W_QF_IDL s t.to) _ read.0 c.in_ok-r.r read.1)
    (ended s c.in_ok-r.r Command.set_logic Kind.SetLogic None n names lens rows _ (c.end-then-eq-7.ensures Command.set_logic) (record { kind_is = refl; fault_first = refl; holding = λ z. tt })))))))))

pub returns-then-eq-8-clause-heard : goal.returns-then-eq-8-clause-heard
returns-then-eq-8-clause-heard c = let s = c.args.self.now.text.now in
    let t = c.args.t in
    let w = lexeme s (numbered t) in
    let n = c.args.self.now.names.count in
    let names = c.args.self.now.names.letters.now in
    let lens = c.args.self.now.names.lens.now in
    let rows = columns_of c.args.rows.now in
    heard_no _ _ _ _ _ c.eq.result (equal_words c.eq.result _ w _ W_assert c.eq.ensures c.lexeme-name.ensures c.as_slice.ensures) c.if-eq.false
    (heard_no _ _ _ _ _ c.eq-2.result (equal_words c.eq-2.result _ w _ W_declare_fun c.eq-2.ensures c.lexeme-name.ensures c.as_slice-2.ensures) c.if-eq-2.false
    (heard_no _ _ _ _ _ c.eq-3.result (equal_words c.eq-3.result _ w _ W_check_sat c.eq-3.ensures c.lexeme-name.ensures c.as_slice-3.ensures) c.if-eq-3.false
    (heard_no _ _ _ _ _ c.eq-4.result (equal_words c.eq-4.result _ w _ W_push c.eq-4.ensures c.lexeme-name.ensures c.as_slice-4.ensures) c.if-eq-4.false
    (heard_no _ _ _ _ _ c.eq-5.result (equal_words c.eq-5.result _ w _ W_pop c.eq-5.ensures c.lexeme-name.ensures c.as_slice-5.ensures) c.if-eq-5.false
    (heard_no _ _ _ _ _ c.eq-6.result (equal_words c.eq-6.result _ w _ W_get_value c.eq-6.ensures c.lexeme-name.ensures c.as_slice-6.ensures) c.if-eq-6.false
    (heard_no _ _ _ _ _ c.eq-7.result (equal_words c.eq-7.result _ w _ W_set_logic c.eq-7.ensures c.lexeme-name.ensures c.as_slice-7.ensures) c.if-eq-7.false
    (heard_yes _ _ _ _ _ c.eq-8.result (equal_words c.eq-8.result _ w _ W_exit c.eq-8.ensures c.lexeme-name.ensures c.as_slice-8.ensures) c.if-eq-8.true
    (ended s t.to Command.exit Kind.Exit None n names lens rows _ (c.end-then-eq-8.ensures Command.exit) (record { kind_is = refl; fault_first = refl; holding = λ z. tt })))))))))

pub returns-clause-heard : goal.returns-clause-heard
returns-clause-heard c = let s = c.args.self.now.text.now in
    let w = lexeme s (numbered c.args.t) in
    cond_false (same_bytes w W_assert) _ _ (sym (equal_words c.eq.result _ w _ W_assert c.eq.ensures c.lexeme-name.ensures c.as_slice.ensures) ∙ c.if-eq.false)
    ∙ cond_false (same_bytes w W_declare_fun) _ _ (sym (equal_words c.eq-2.result _ w _ W_declare_fun c.eq-2.ensures c.lexeme-name.ensures c.as_slice-2.ensures) ∙ c.if-eq-2.false)
    ∙ cond_false (same_bytes w W_check_sat) _ _ (sym (equal_words c.eq-3.result _ w _ W_check_sat c.eq-3.ensures c.lexeme-name.ensures c.as_slice-3.ensures) ∙ c.if-eq-3.false)
    ∙ cond_false (same_bytes w W_push) _ _ (sym (equal_words c.eq-4.result _ w _ W_push c.eq-4.ensures c.lexeme-name.ensures c.as_slice-4.ensures) ∙ c.if-eq-4.false)
    ∙ cond_false (same_bytes w W_pop) _ _ (sym (equal_words c.eq-5.result _ w _ W_pop c.eq-5.ensures c.lexeme-name.ensures c.as_slice-5.ensures) ∙ c.if-eq-5.false)
    ∙ cond_false (same_bytes w W_get_value) _ _ (sym (equal_words c.eq-6.result _ w _ W_get_value c.eq-6.ensures c.lexeme-name.ensures c.as_slice-6.ensures) ∙ c.if-eq-6.false)
    ∙ cond_false (same_bytes w W_set_logic) _ _ (sym (equal_words c.eq-7.result _ w _ W_set_logic c.eq-7.ensures c.lexeme-name.ensures c.as_slice-7.ensures) ∙ c.if-eq-7.false)
    ∙ cond_false (same_bytes w W_exit) _ _ (sym (equal_words c.eq-8.result _ w _ W_exit c.eq-8.ensures c.lexeme-name.ensures c.as_slice-8.ensures) ∙ c.if-eq-8.false)
