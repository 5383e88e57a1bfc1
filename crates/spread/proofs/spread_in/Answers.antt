-- `spread::spread_in` meets its contract: one step is given its gain, and then all turns made.
use Rattle.std.proofs.Common.{ℕ, ◌+◌, ◌^◌, ◌<◌, ◌≡◌, ap, arith, rules}
use native.Mathlib.Decide.{ℕ_discrete}
use Rattle.chains.specs.Chains.{linked}
use Rattle.meaning.specs.Tables.{at}
use Rattle.waiting.specs.Places.{Put}
use Rattle.spread.specs.Clauses.{StepsRoom, alone}
use Rattle.spread.specs.Ground.{rules as held_rules}
use Rattle.spread.proofs.Collecting.{alone_is}
use Rattle.spread.proofs.Ends.{no_turn_yet, collected_ready, from_before}
use Rattle.spread.proofs.spread_in.Goals as goal

-- The one gain is small, and so is none.
small : (n y gain : ℕ) (g g' : ℕ → ℕ) → gain < 2 ^ 62 → ((v : ℕ) → v < n → g v ≡ 0) → Put y gain g g' → (v : ℕ) → v < n → g' v < 2 ^ 62
small n y gain g g' fits none put v v-in = tell (ℕ_discrete v y)
  where
    tell : Dec (v ≡ y) → g' v < 2 ^ 62
    tell (yes e) = omega (arith, ap g' e, put.there)
    tell (no e) = omega (arith, put.others v e, none v v-in)

pub begin-waiting-requires : goal.begin-waiting-requires
begin-waiting-requires g c = (
  (let few = c.requires.groups_room.few in
      let groups = c.requires.groups_room.leaders_room in
      search rules),
  (c.requires.askable_alone, (c.requires.steps_in, c.requires.groups_room)),
)

pub settle_all-requires : goal.settle_all-requires
settle_all-requires g c = let a = c.args in
    let asked = c.requires.askable_alone in
    let begin = c.begin-waiting in
    let begun = begin.ensures.begun in
    let room : StepsRoom a.n g.row.N begin.new.gains begin.new.by = record {
      steps_in = c.requires.steps_in;
      gains_room = omega (arith, begin.auto.gains, asked.gains_room);
      by_room = omega (arith, begin.auto.by, asked.by_room);
    } in
    let ready = collected_ready a.n (at begin.new.gains) (at begin.new.by) (at begin.result.list) begin.result.count
    (small a.n a.y a.gain (at a.gains.now) (at begin.new.gains) asked.small asked.none_yet begun.asked) begun.collected in
    (search rules, (c.requires.ground, record { steps_room = room; groups_room = c.requires.groups_room; ready = ready; led = begin.ensures.led }))

pub returns : goal.returns
returns g c = let a = c.args in
    let asked = c.requires.askable_alone in
    let begin = c.begin-waiting in
    let begun = begin.ensures.begun in
    let low : ℕ → ℕ = λ v. at a.held.days.now v + alone a.y a.gain v in
    from_before a.n (linked a.held.nexts.now) a.held.rules.xs.now a.held.rules.ys.now a.held.rules.cs.now a.held.days.now a.goal low a.gains.now begin.new.gains _ _ a.y a.gain asked.step_in
    begun.asked
    (c.settle_all.ensures low
    (no_turn_yet a.n (held_rules a.held.rules.xs.now a.held.rules.ys.now a.held.rules.cs.now) (linked a.held.nexts.now) (at a.held.days.now) low (at begin.new.gains)
    (at begin.new.by) (at begin.result.list) begin.result.count
    (λ v v-in. omega (arith, alone_is a.n a.y a.gain (at a.gains.now) (at begin.new.gains) asked.none_yet begun.asked v v-in))
    begun.collected))
