-- The proof of the cycle of calls {term, terms}: `term` has a law for each way through it.
use mathlib.Core.Path.{◌≡◌, refl, sym, ap, subst, ◌∙◌}
use mathlib.Core.Bool.{Bool, false, not}
use Prim.Native.Nat.{◌-◌}
use native.Mathlib.Omega.{arith}
use denote.Enum.Bare.{differs_true, differs_false, same_true, same_false}
use Rattle.text.specs.contracts.Kind.{the_type}
use Rattle.text.specs.declared.Kind.{Kind}
use Rattle.text.specs.Lexicon.{Tok, OPEN, CLOSE, token_at, same_bytes}
use Rattle.text.specs.Numbered.{code_of, numbered}
use Rattle.words.specs.Words.{compares, W_not, W_and}
use Rattle.reading.specs.Tree.{Term, rules_of_term}
use Rattle.reading.specs.Reading.{Read, lexeme, closed, comparison, conjoined, term}
use Rattle.reading.specs.Heard.{Hears}
use Rattle.reading.specs.Rows.{TermPut}
use Rattle.reading.proofs.Standing.{same_kind, equal_words}
use Rattle.reading.proofs.Steps.{read_as, goes_on, halts, halted, came_to, hears_as}
use Rattle.reading.proofs.Progress.{came, term_moves}
use Rattle.reading.proofs.Rowing.{rowed_both}
use Rattle.reading.proofs.Keeping.{kept_same, kept_more}
use Rattle.reading.proofs.Closing.{closing}
use Rattle.reading.proofs.Terms.{no_bracket, too_deep, no_operator, compared, negated, and_under_not, conjoining, unknown, going_first, going_halts, going_ends, going_on, rest_halts, rest_ends}
use Rattle.reading.proofs.reader.Reader.+term_terms.Goals as goal
use Rattle.reading.proofs.reader.Reader.+term_terms.Goals.{term-else-eq-2-via-then-eq-2+else-not-odd, term-else-eq-2-via-else-eq-2}

pub term-returns-then-ne-clause-heard : goal.term-returns-then-ne-clause-heard
term-returns-then-ne-clause-heard t c = let s = c.args.self.now.text.now in
    let at = c.args.at in
    let d = c.args.d in
    let odd = c.args.odd in
    let o = numbered c.token-t.result in
    no_bracket s at o c.token-t.ensures.told d odd (λ z. differs_true the_type c.token-t.result.kind Kind.Open (sym c.ne.ensures ∙ c.if-ne.true) (same_kind _ Kind.Open z)) ∙ c.unopened.ensures at c.token-t.ensures.told

pub term-returns-then-d-eq0-clause-heard : goal.term-returns-then-d-eq0-clause-heard
term-returns-then-d-eq0-clause-heard t c = let s = c.args.self.now.text.now in
    let at = c.args.at in
    let d = c.args.d in
    let odd = c.args.odd in
    let o = numbered c.token-t.result in
    let opens : o.kind ≡ OPEN = ap code_of (differs_false the_type tt c.token-t.result.kind Kind.Open (sym c.ne.ensures ∙ c.if-ne.false)) in
    too_deep s at o c.token-t.ensures.told d odd opens c.if-d-eq0.true

pub term-returns-in_err-u-clause-heard : goal.term-returns-in_err-u-clause-heard
term-returns-in_err-u-clause-heard t c = let s = c.args.self.now.text.now in
    let at = c.args.at in
    let d = c.args.d in
    let odd = c.args.odd in
    let o = numbered c.token-t.result in
    let opens : o.kind ≡ OPEN = ap code_of (differs_false the_type tt c.token-t.result.kind Kind.Open (sym c.ne.ensures ∙ c.if-ne.false)) in
    let no = c.in_err-u.ensures in
    halted _ _ _ _ c.from_residual.ensures.1 (λ y h. h ∙ no.there) (no_operator s at o c.token-t.ensures.told d odd opens c.if-d-eq0.false (token_at s o.to) refl no.other)

pub term-returns-then-is_comparison-clause-heard : goal.term-returns-then-is_comparison-clause-heard
term-returns-then-is_comparison-clause-heard t c = let s = c.args.self.now.text.now in
    let at = c.args.at in
    let d = c.args.d in
    let odd = c.args.odd in
    let o = numbered c.token-t.result in
    let opens : o.kind ≡ OPEN = ap code_of (differs_false the_type tt c.token-t.result.kind Kind.Open (sym c.ne.ensures ∙ c.if-ne.false)) in
    let v = c.in_ok-u.u in
    let u = numbered v in
    let w = lexeme s u in
    let is : c.is_comparison.result ≡ compares w = c.is_comparison.ensures ∙ ap compares c.lexeme-operator.ensures in
    hears_as _ (comparison w s u.to) _ _ (compared s at o c.token-t.ensures.told d odd opens c.if-d-eq0.false u c.in_ok-u.ensures.told c.in_ok-u.ensures.symbol c.is_comparison.result is c.if-is_comparison.true) (rw c.lexeme-operator.ensures at c.atom.ensures.heard)

pub term-returns-in_err-r-clause-heard : goal.term-returns-in_err-r-clause-heard
term-returns-in_err-r-clause-heard t c = let s = c.args.self.now.text.now in
    let at = c.args.at in
    let d = c.args.d in
    let odd = c.args.odd in
    let o = numbered c.token-t.result in
    let opens : o.kind ≡ OPEN = ap code_of (differs_false the_type tt c.token-t.result.kind Kind.Open (sym c.ne.ensures ∙ c.if-ne.false)) in
    let v = c.in_ok-u.u in
    let u = numbered v in
    let w = lexeme s u in
    let is : c.is_comparison.result ≡ compares w = c.is_comparison.ensures ∙ ap compares c.lexeme-operator.ensures in
    let is_not : c.eq.result ≡ same_bytes w W_not = equal_words c.eq.result _ w _ W_not c.eq.ensures c.lexeme-operator.ensures c.as_slice.ensures in
    halted _ _ _ _ c.from_residual-in_err-r.ensures.1 (λ y h. h)
    (negated s at o c.token-t.ensures.told d odd opens c.if-d-eq0.false u c.in_ok-u.ensures.told c.in_ok-u.ensures.symbol c.is_comparison.result is c.if-is_comparison.false c.eq.result is_not c.if-eq.true ∙ halts (term (d - 1) s (not odd) u.to) _ _ c.in_err-r.ensures.heard)

pub term-returns-then-eq-clause-heard : goal.term-returns-then-eq-clause-heard
term-returns-then-eq-clause-heard t c = let s = c.args.self.now.text.now in
    let at = c.args.at in
    let d = c.args.d in
    let odd = c.args.odd in
    let o = numbered c.token-t.result in
    let opens : o.kind ≡ OPEN = ap code_of (differs_false the_type tt c.token-t.result.kind Kind.Open (sym c.ne.ensures ∙ c.if-ne.false)) in
    let v = c.in_ok-u.u in
    let u = numbered v in
    let w = lexeme s u in
    let is : c.is_comparison.result ≡ compares w = c.is_comparison.ensures ∙ ap compares c.lexeme-operator.ensures in
    let is_not : c.eq.result ≡ same_bytes w W_not = equal_words c.eq.result _ w _ W_not c.eq.ensures c.lexeme-operator.ensures c.as_slice.ensures in
    let read = read_as (term (d - 1) s (not odd) u.to) _ c.in_ok-r.r c.in_ok-r.ensures.heard in
    hears_as _ (closed s (Term.negation read.0) c.in_ok-r.r) _ _
    (negated s at o c.token-t.ensures.told d odd opens c.if-d-eq0.false u c.in_ok-u.ensures.told c.in_ok-u.ensures.symbol c.is_comparison.result is c.if-is_comparison.false c.eq.result is_not c.if-eq.true
    ∙ goes_on (term (d - 1) s (not odd) u.to) _ read.0 c.in_ok-r.r read.1.0)
    (closing s c.in_ok-r.r (Term.negation read.0) _ c.kind.result c.kind.ensures
    (λ x far within. (refl, record { rowed = read.1.1.rowed; few = omega (arith, read.1.1.few, far); within = within })))

pub term-returns-then-not-odd-clause-heard : goal.term-returns-then-not-odd-clause-heard
term-returns-then-not-odd-clause-heard t c = let s = c.args.self.now.text.now in
    let at = c.args.at in
    let d = c.args.d in
    let odd = c.args.odd in
    let o = numbered c.token-t.result in
    let opens : o.kind ≡ OPEN = ap code_of (differs_false the_type tt c.token-t.result.kind Kind.Open (sym c.ne.ensures ∙ c.if-ne.false)) in
    let v = c.in_ok-u.u in
    let u = numbered v in
    let w = lexeme s u in
    let is : c.is_comparison.result ≡ compares w = c.is_comparison.ensures ∙ ap compares c.lexeme-operator.ensures in
    let is_not : c.eq.result ≡ same_bytes w W_not = equal_words c.eq.result _ w _ W_not c.eq.ensures c.lexeme-operator.ensures c.as_slice.ensures in
    let is-and : c.eq-2.result ≡ same_bytes w W_and = equal_words c.eq-2.result _ w _ W_and c.eq-2.ensures c.lexeme-operator.ensures c.as_slice-2.ensures in
    let even : odd ≡ false = c.if-not-odd.true in
    subst (λ (b : Bool). Hears (term d s odd at) (λ t e x. (x ≡ e) × TermPut c.args.self.now b t c.args.rows.now c.terms.new.rows x) c.terms.result) (sym even)
    (hears_as _ (conjoined (term (d - 1) s false) s u.to) _ _
    (conjoining s at o c.token-t.ensures.told d odd opens c.if-d-eq0.false u c.in_ok-u.ensures.told c.in_ok-u.ensures.symbol c.is_comparison.result is c.if-is_comparison.false c.eq.result is_not c.if-eq.false c.eq-2.result is-and c.if-eq-2.true even) c.terms.ensures.heard)

pub term-returns-clause-heard : goal.term-returns-clause-heard
term-returns-clause-heard t c = let s = c.args.self.now.text.now in
    let at = c.args.at in
    let d = c.args.d in
    let odd = c.args.odd in
    let o = numbered c.token-t.result in
    let opens : o.kind ≡ OPEN = ap code_of (differs_false the_type tt c.token-t.result.kind Kind.Open (sym c.ne.ensures ∙ c.if-ne.false)) in
    let v = c.in_ok-u.u in
    let u = numbered v in
    let w = lexeme s u in
    let is : c.is_comparison.result ≡ compares w = c.is_comparison.ensures ∙ ap compares c.lexeme-operator.ensures in
    let is_not : c.eq.result ≡ same_bytes w W_not = equal_words c.eq.result _ w _ W_not c.eq.ensures c.lexeme-operator.ensures c.as_slice.ensures in
    let is-and : c.eq-2.result ≡ same_bytes w W_and = equal_words c.eq-2.result _ w _ W_and c.eq-2.ensures c.lexeme-operator.ensures c.as_slice-2.ensures in
    elim c.else-eq-2.branch [
      | term-else-eq-2-via-then-eq-2+else-not-odd k ↦ and_under_not s at o c.token-t.ensures.told d odd opens c.if-d-eq0.false u c.in_ok-u.ensures.told c.in_ok-u.ensures.symbol c.is_comparison.result is c.if-is_comparison.false c.eq.result is_not c.if-eq.false c.eq-2.result is-and k.if-eq-2.true k.if-not-odd.false
      | term-else-eq-2-via-else-eq-2 k ↦ unknown s at o c.token-t.ensures.told d odd opens c.if-d-eq0.false u c.in_ok-u.ensures.told c.in_ok-u.ensures.symbol c.is_comparison.result is c.if-is_comparison.false c.eq.result is_not c.if-eq.false c.eq-2.result is-and k.if-eq-2.false
    ]

pub terms-loop-i-init : goal.terms-loop-i-init
terms-loop-i-init t c = let s = c.args.self.now.text.now in
    let at = c.args.at in
    let d = c.args.d in
    let names = c.args.self.now.names in
    let first = read_as (term d s false at) _ c.in_ok-i.i c.in_ok-i.ensures.heard in
    record {
      kept = kept_same c.term.new.rows;
      going = going_first names.count names.letters.now names.lens.now s d c.in_ok-i.i _ _ _ first.1.1.within first.1.1.few;
    }

pub terms-returns-in_err-i-2-clause-heard : goal.terms-returns-in_err-i-2-clause-heard
terms-returns-in_err-i-2-clause-heard t c = let s = c.args.self.now.text.now in
    let at = c.args.at in
    let d = c.args.d in
    let names = c.args.self.now.names in
    let first = read_as (term d s false at) _ c.in_ok-i.i c.in_ok-i.ensures.heard in
    halted _ _ _ _ c.from_residual-in_err-i-2.ensures.1 (λ y h. h)
    (rest_halts s d at first.0 c.in_ok-i.i first.1.0 _
    (going_halts names.count names.letters.now names.lens.now s d _ _ _ _ c.loop-i.i _ _ _ c.loop-i.invariant.going _ c.in_err-i-2.ensures.heard))

pub terms-returns-then-eq-clause-heard : goal.terms-returns-then-eq-clause-heard
terms-returns-then-eq-clause-heard t c = let s = c.args.self.now.text.now in
    let at = c.args.at in
    let d = c.args.d in
    let names = c.args.self.now.names in
    let first = read_as (term d s false at) _ c.in_ok-i.i c.in_ok-i.ensures.heard in
    let j = c.in_ok-i-2.i in
    let read = read_as (term d s false c.loop-i.i) _ j c.in_ok-i-2.ensures.heard in
    let b = c.token-t.result in
    let closes : code_of b.kind ≡ CLOSE = ap code_of (same_true the_type tt b.kind Kind.Close (sym c.eq.ensures ∙ c.if-eq.true)) in
    let there : (token_at s j).kind ≡ CLOSE = sym (ap (λ (x : Tok). x.kind) c.token-t.ensures.told) ∙ closes in
    let past = c.token-t.ensures.within (λ z. omega (arith, z, closes)) in
    let e = going_ends names.count names.letters.now names.lens.now s d _ _ _ _ c.loop-i.i _ _ _ c.loop-i.invariant.going read.0 j _ _ _ read.1.0 read.1.1.rowed there in
    came_to _ _ (Term.conjunction first.0 e.0) b.to (rest_ends s d at first.0 c.in_ok-i.i first.1.0 e.0 b.to (e.1.0 ∙ ap (λ (x : Tok). Read.got e.0 x.to) (sym c.token-t.ensures.told))) (
      refl,
      record {
        rowed = rowed_both names.count names.letters.now names.lens.now (rules_of_term false first.0) (rules_of_term false e.0) _ _ _ _ _ _ _ _ _ first.1.1.rowed e.1.1;
        few = omega (arith, read.1.1.few, past.0);
        within = past.1;
      },
    )

pub terms-loop-i-smaller : goal.terms-loop-i-smaller
terms-loop-i-smaller t c = let s = c.args.self.now.text.now in
    let read = read_as (term c.args.d s false c.loop-i.i) _ c.in_ok-i-2.i c.in_ok-i-2.ensures.heard in
    let p = came s c.loop-i.i (term c.args.d s false c.loop-i.i) (term_moves s c.args.d false c.loop-i.i) read.0 c.in_ok-i-2.i read.1.0 in
    omega (arith, p.0, p.1)

pub terms-loop-i-preserved : goal.terms-loop-i-preserved
terms-loop-i-preserved t c = let s = c.args.self.now.text.now in
    let d = c.args.d in
    let names = c.args.self.now.names in
    let j = c.in_ok-i-2.i in
    let b = c.token-t.result in
    let read = read_as (term d s false c.loop-i.i) _ j c.in_ok-i-2.ensures.heard in
    record {
      kept = kept_more _ _ _ c.loop-i.invariant.kept c.term-in-loop-i.ensures.kept;
      going = going_on names.count names.letters.now names.lens.now s d _ _ _ _ c.loop-i.i _ _ _ c.loop-i.invariant.going read.0 j _ _ _ read.1.0 read.1.1.rowed
          (λ z. same_false the_type b.kind Kind.Close (sym c.eq.ensures ∙ c.if-eq.false) (same_kind b.kind Kind.Close (ap (λ (x : Tok). x.kind) c.token-t.ensures.told ∙ z)))
          read.1.1.few;
    }
