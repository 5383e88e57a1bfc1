-- `desk::verdict` meets its contract: each refusal has its ground in the test that gives it.
use mathlib.Core.Path.{refl}
use mathlib.Core.Logic.{inl, inr}
use Rattle.lent.proofs.Watching.{idle_border}
use native.Mathlib.Omega.{arith}
use Rattle.desk.proofs.verdict.Goals as goal

pub returns-then-not-has_room : goal.returns-then-not-has_room
returns-then-not-has_room c = record {
  first_unmet = inl (refl, λ h. (c.has_room.ensures c.args.counts).not_so c.if-not-has_room.true h.1);
  chained = λ e. absurd (omega arith);
}

pub is_sound-requires : goal.is_sound-requires
is_sound-requires c = record {
  room = (c.has_room.ensures c.args.counts).so c.if-not-has_room.false;
  heads_room = c.requires.in_bounds;
  nexts_room = c.requires.in_bounds_2;
}

pub returns-then-not-is_sound : goal.returns-then-not-is_sound
returns-then-not-is_sound c = let is-sound = c.is_sound in
    let if2 = c.if-not-has_room in
    let has_room = c.has_room in
    let if1 = c.if-not-lists in
    record {
      first_unmet = inr ((if1.false, (has_room.ensures c.args.counts).so if2.false), inl (refl, is-sound.ensures.decides.not_so c.if-not-is_sound.true));
      chained = λ e. absurd (omega arith);
    }

pub is_right-requires : goal.is_right-requires
is_right-requires c = let is-sound = c.is_sound in
    idle_border (record { room = (c.has_room.ensures c.args.counts).so c.if-not-has_room.false; sound = is-sound.ensures.decides.so c.if-not-is_sound.false })

pub returns-then-not-is_right : goal.returns-then-not-is_right
returns-then-not-is_right c = let is-sound = c.is_sound in
    record {
      first_unmet =
          inr (
            (c.if-not-lists.false, (c.has_room.ensures c.args.counts).so c.if-not-has_room.false),
            inr (is-sound.ensures.decides.so c.if-not-is_sound.false, inl (refl, c.is_right.ensures.not_so c.if-not-is_right.true)),
          );
      chained = λ e. absurd (omega arith);
    }

pub returns : goal.returns
returns c = let is-sound = c.is_sound in
    record {
      first_unmet =
          inr (
            (c.if-not-lists.false, (c.has_room.ensures c.args.counts).so c.if-not-has_room.false),
            inr (is-sound.ensures.decides.so c.if-not-is_sound.false, inr (c.is_right.ensures.so c.if-not-is_right.false, refl)),
          );
      chained = λ e. is-sound.ensures.chained c.if-not-is_sound.false;
    }
