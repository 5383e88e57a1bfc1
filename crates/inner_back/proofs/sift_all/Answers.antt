use Prim.Native.Nat.{◌≤◌, ◌<◌}
use mathlib.Core.Path.{◌≡◌, refl, ◌∙◌, ap}
use lib.ListN.{length}
use Rattle.meaning.specs.Bounds.{RULES}
use Rattle.meaning.specs.Tables.{at, taken}
use Rattle.meaning.proofs.Places.{taken_at_most, freed_length}
use Rattle.inner_back.proofs.Sifting.{sifting_none, not_yet, place_left, sifting_free, sifting_more, sifted_one, sifted_levels, sifted_left, sifted_chains}
use native.Mathlib.Omega.{arith}
use Rattle.inner_back.proofs.sift_all.Goals as goal
use Rattle.inner_back.proofs.sift_all.Goals.{then-levels-i-ne0, else-levels-i-ne0}

pub loop-seen-init : goal.loop-seen-init
loop-seen-init c = let args = c.args in
    (sifting_none args.n args.k args.xs.now args.levels.now args.heads.now _ args.nexts.now c.requires.lent_chains c.clear.ensures, refl, refl)

pub sift-left-requires : goal.sift-left-requires
sift-left-requires c =
    let inside : c.loop-seen.i < RULES = place_left c.loop-seen.invariant.0 (omega (arith, c.loop-seen-test.true, c.requires.freeable.counted)) in
    let heads_room : c.args.n ≤ length c.loop-seen.heads = omega (arith, c.loop-seen.invariant.1, c.clear.auto.heads, c.requires.lent_chains.heads_room) in
    let levels_length : length c.loop-seen.levels ≡ length c.args.levels.now = ap length c.loop-seen.invariant.0.levels_are ∙ freed_length c.loop-seen.i c.args.k c.args.levels.now in
    let firsts = c.requires.freeable.firsts_in c.loop-seen.i (inside, omega (arith, c.if-levels-i-ne0.true, not_yet c.loop-seen.invariant.0 c.loop-seen.i (omega arith))) in record {
      linkable = record {
        first_place = omega (arith, inside, c.requires.freeable.firsts_room);
        next_place = omega (arith, inside, c.loop-seen.invariant.2, c.requires.lent_chains.nexts_room);
        head_place = omega (arith, firsts, heads_room);
        link_fits = omega (arith, inside);
      };
      i_in_bounds = omega (arith, inside, c.requires.freeable.levels_room, levels_length);
      k_bound = c.requires.freeable.marks_in;
    }

pub overflow_add-left : goal.overflow_add-left
overflow_add-left c =
    let inside : c.loop-seen.i < RULES = place_left c.loop-seen.invariant.0 (omega (arith, c.loop-seen-test.true, c.requires.freeable.counted)) in
    let s = c.loop-seen.invariant.0 in
    omega (arith, sifted_one c.sift-left.ensures, s.left_are, taken_at_most c.loop-seen.i c.loop-seen.levels, inside)

pub loop-seen-preserved : goal.loop-seen-preserved
loop-seen-preserved c =
    let inside : c.loop-seen.i < RULES = place_left c.loop-seen.invariant.0 (omega (arith, c.loop-seen-test.true, c.requires.freeable.counted)) in
    let loop = c.loop-seen in
    elim c.if-levels-i-ne0.branch [
      | then-levels-i-ne0 w ↦
          let some : 0 < at loop.levels loop.i = omega (arith, w.if-levels-i-ne0.true) in
          let sift = w.sift-left in
          rw (w.levels-is, w.heads-is, w.nexts-is, w.seen-is, w.left-is) (
            sifting_more loop.invariant.0 inside some
                (c.requires.freeable.firsts_in loop.i (inside, omega (arith, some, not_yet loop.invariant.0 loop.i (omega arith))))
                (omega (arith, inside, loop.invariant.2, c.requires.lent_chains.nexts_room)) sift.ensures,
            sift.auto.heads ∙ loop.invariant.1,
            sift.auto.nexts ∙ loop.invariant.2,
          )
      | else-levels-i-ne0 w ↦ rw (w.levels-is, w.heads-is, w.nexts-is, w.seen-is, w.left-is) (sifting_free loop.invariant.0 inside w.if-levels-i-ne0.false, loop.invariant.1, loop.invariant.2)
    ]

pub returns : goal.returns
returns c =
    let heads_room : c.args.n ≤ length c.loop-seen.heads = omega (arith, c.loop-seen.invariant.1, c.clear.auto.heads, c.requires.lent_chains.heads_room) in
    let s = c.loop-seen.invariant.0 in
    let all : taken RULES c.args.levels.now ≤ c.loop-seen.seen = omega (arith, c.loop-seen-test.false, c.requires.freeable.counted) in record {
      levels_after = sifted_levels s all;
      value = sifted_left s all;
      lent_chains_2 = sifted_chains s all (heads_room) (omega (arith, c.loop-seen.invariant.2, c.requires.lent_chains.nexts_room));
    }
