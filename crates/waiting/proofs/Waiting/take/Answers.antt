-- `Waiting::take` meets its contract: a leader of largest gain has the largest of all; the last step gets its place, and the groups of the two are led anew.
use Rattle.std.proofs.Common.{◌-◌, ◌/◌, rules, arith, inl, inr, refl}
use Rattle.meaning.specs.Tables.{at}
use Rattle.waiting.proofs.Leaving.{regroupable, took, taken_place, first_part}
use Rattle.waiting.proofs.Waiting.take.Goals as goal

pub regroup-requires : goal.regroup-requires
regroup-requires g c = let w = c.args.self.now in
    let place_in = taken_place c.args.gains.now w c.largest-x.result (search rules) c.requires.some (first_part w.leaders (omega arith) c.largest-x.ensures) in
    regroupable c.args.gains.now w w.leaders c.largest-x.result (at w.places c.largest-x.result / 16) (search rules) (search rules) c.requires.some c.requires.led (omega arith)

pub regroup-requires-then-ended-last : goal.regroup-requires-then-ended-last
regroup-requires-then-ended-last g c = let w = c.args.self.now in
    regroupable c.args.gains.now w c.regroup.new.leaders _ ((w.count - 1) / 16) (search rules) (search rules) c.requires.some c.requires.led (omega arith)

pub invariant_of-self : goal.invariant_of-self
invariant_of-self g c = let w = c.args.self.now in
    let after = took c.args.gains.now w c.regroup.new.leaders c.regroup-then-ended-last.new.leaders c.largest-x.result (search rules) (search rules) (search rules)
    c.requires.some c.requires.led (first_part w.leaders (omega arith) c.largest-x.ensures) c.regroup.ensures (inl (c.if-ended-last.true, c.regroup-then-ended-last.ensures)) in
    record {
      within = omega (arith, w.within);
      groups = omega (arith, w.groups);
      places_fit = omega (arith, w.places_fit);
      below = after.standing.below;
      placed = after.standing.placed;
      leader = after.standing.leader;
    }

pub invariant_of-self-else-ended-last : goal.invariant_of-self-else-ended-last
invariant_of-self-else-ended-last g c = let w = c.args.self.now in
    let after = took c.args.gains.now w c.regroup.new.leaders c.regroup.new.leaders c.largest-x.result (search rules) (search rules) (search rules)
    c.requires.some c.requires.led (first_part w.leaders (omega arith) c.largest-x.ensures) c.regroup.ensures (inr (c.if-ended-last.false, refl)) in
    record {
      within = omega (arith, w.within);
      groups = omega (arith, w.groups);
      places_fit = omega (arith, w.places_fit);
      below = after.standing.below;
      placed = after.standing.placed;
      leader = after.standing.leader;
    }

pub returns-then-ended-last : goal.returns-then-ended-last
returns-then-ended-last g c = let w = c.args.self.now in
    let after = took c.args.gains.now w c.regroup.new.leaders c.regroup-then-ended-last.new.leaders c.largest-x.result (search rules) (search rules) (search rules)
    c.requires.some c.requires.led (first_part w.leaders (omega arith) c.largest-x.ensures) c.regroup.ensures (inl (c.if-ended-last.true, c.regroup-then-ended-last.ensures)) in
    record {
      one_fewer = refl;
      place = after.place;
      there = after.there;
      largest = after.largest;
      out = after.out;
      led = record { gain = after.standing.gain; most = after.standing.most };
    }

pub returns-else-ended-last : goal.returns-else-ended-last
returns-else-ended-last g c = let w = c.args.self.now in
    let after = took c.args.gains.now w c.regroup.new.leaders c.regroup.new.leaders c.largest-x.result (search rules) (search rules) (search rules)
    c.requires.some c.requires.led (first_part w.leaders (omega arith) c.largest-x.ensures) c.regroup.ensures (inr (c.if-ended-last.false, refl)) in
    record {
      one_fewer = refl;
      place = after.place;
      there = after.there;
      largest = after.largest;
      out = after.out;
      led = record { gain = after.standing.gain; most = after.standing.most };
    }
