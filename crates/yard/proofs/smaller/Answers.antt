-- `yard::smaller` meets its contract: p and q are near to 0 where they are limits, so the way fits; `Machine` has each of its needs.
use mathlib.Core.Logic.{inl, inr}
use mir.Syntax.{w64}
use mir.ValLaws.{to_z-of_z}
use Rattle.yard.proofs.Machine.{is_no_limit, not_no_limit, lesser_read, way_read}
use Rattle.yard.proofs.smaller.Goals as goal
use Rattle.yard.proofs.smaller.Goals.{then-p-eq-NO_LIMIT-via-then-p-eq-NO_LIMIT, then-p-eq-NO_LIMIT-via-else-p-eq-NO_LIMIT+then-q-eq-NO_LIMIT}

pub returns-then-p-eq-NO_LIMIT : goal.returns-then-p-eq-NO_LIMIT
returns-then-p-eq-NO_LIMIT c = let a = c.args in
    let f = c.ranges in
    elim c.then-p-eq-NO_LIMIT.branch [
      | then-p-eq-NO_LIMIT-via-then-p-eq-NO_LIMIT w ↦ inl (inl (is_no_limit a.p f.p w.if-p-eq-NO_LIMIT.true), to_z-of_z w64 a.a f.a)
      | then-p-eq-NO_LIMIT-via-else-p-eq-NO_LIMIT+then-q-eq-NO_LIMIT w ↦ inl (inr (is_no_limit a.q f.q w.if-q-eq-NO_LIMIT.true), to_z-of_z w64 a.a f.a)
    ]

pub returns : goal.returns
returns c = let a = c.args in
    let f = c.ranges in
    let none = not_no_limit a.p c.if-p-eq-NO_LIMIT.false in
    let none-too = not_no_limit a.q c.if-q-eq-NO_LIMIT.false in
    let is = way_read a.p a.c a.q f.p f.c f.q none none-too c.requires.near c.requires.in_amount c.requires.near_2 in
    inr (none, none-too, rw (to_z-of_z w64 c.min.result (record { sfits = c.min.type_inv })) (lesser_read (to_z-of_z w64 a.a f.a) is c.min.ensures.value))
