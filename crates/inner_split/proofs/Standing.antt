-- What tables that have room and are sound give to Consequences.
use Prim.Native.Nat.{ℕ, ◌≤◌, ◌<◌}
use native.Mathlib.Omega.{arith}
use mathlib.Core.List.{List}
use lib.ListN.{length}
use lib.IntN.{ℤ}
use Rattle.meaning.specs.declared.Counts.{Counts}
use Rattle.meaning.specs.Bounds.{STEPS, WATCHED}
use Rattle.meaning.specs.Tables.{Columns, ColumnsRoom, rule_at, at}
use Rattle.meaning.proofs.DayBound.{day_bound}
use Rattle.lent.specs.Lent.{columns, tables, held_by}
use Rattle.lent.specs.Promises.{Border}
use Rattle.chains.specs.Chains.{Chained, number, linked, LentChains, Buildable}
use Rattle.spread.specs.Ground.{Ground}
use Rattle.inner_split.specs.Carries.{Near}
use Rattle.inner_split.specs.Clauses.{ChainsBy, Watching}

-- A table with room for k rules has room for fewer.
fewer_room : (j k : ℕ) (c : Columns) → j ≤ k → ColumnsRoom k c → ColumnsRoom j c
fewer_room j k c fewer room = record {
  firsts_room = omega (arith, room.firsts_room);
  seconds_room = omega (arith, room.seconds_room);
  amounts_room = omega (arith, room.amounts_room);
}

module _
    (counts : Counts) (xs ys : List ℕ) (cs : List ℤ) (days levels wxs wys : List ℕ) (wcs : List ℤ)
    (border : Border (tables counts xs ys cs days levels wxs wys wcs)) where
  -- A spread can stand on them, with the chains of the rules.
  pub ground :
      (heads nexts : List ℕ) → LentChains counts.steps (held_by levels) xs heads nexts →
      Ground counts.steps (linked nexts) number xs ys cs days heads nexts
  ground heads nexts chains = record {
    steps_in = border.sound.counts_in.steps_in;
    number_in = λ i on. on.0;
    placed = λ i on. record {
      first_place = omega (arith, on.0, border.room.rules_room.firsts_room);
      second_place = omega (arith, on.0, border.room.rules_room.seconds_room);
      amount_place = omega (arith, on.0, border.room.rules_room.amounts_room);
    };
    next_place = λ i on. omega (arith, on.0, chains.nexts_room);
    days_room = omega (arith, border.sound.counts_in.steps_in, border.room.days_room);
    heads_room = chains.heads_room;
    in_steps = λ i on. (border.sound.rules_good i (chains.only i on)).steps_in;
    plan = λ i on. border.sound.days_earliest.plan i (chains.only i on);
    chained = chains.chained;
  }

  -- No day comes with an amount to the gain that is asked for.
  pub near : Near counts.steps days
  near v v-in =
      omega (
        arith,
        border.sound.counts_in.steps_in,
        day_bound counts.steps (rule_at (columns xs ys cs)) (held_by levels) (at days) border.sound.rules_good border.sound.days_earliest v v-in,
      )

  -- The watched rules can be put on chains by the steps given, in lists with places for the full bounds.
  pub buildable :
      (steps heads nexts : List ℕ) → WATCHED ≤ length steps → ((j : ℕ) → j < counts.watched → at steps j < counts.steps) → STEPS ≤ length heads →
      WATCHED ≤ length nexts → Buildable counts.steps counts.watched steps heads nexts
  buildable steps heads nexts steps_room steps_in heads_room nexts_room = record {
    heads_room = omega (arith, border.sound.counts_in.steps_in);
    firsts_room = omega (arith, border.sound.counts_in.watched_in);
    nexts_room = omega (arith, border.sound.counts_in.watched_in);
    links_fit = omega (arith, border.sound.counts_in.watched_in);
    firsts_in = steps_in;
  }

  -- Such chains have their places.
  pub chains_by :
      (steps heads nexts : List ℕ) → Chained counts.steps counts.watched steps heads nexts → STEPS ≤ length heads → WATCHED ≤ length nexts →
      ChainsBy counts.steps counts.watched steps heads nexts
  chains_by steps heads nexts chained heads_room nexts_room = record {
    heads_room = omega (arith, border.sound.counts_in.steps_in);
    nexts_room = omega (arith, border.sound.counts_in.watched_in);
    chained = chained;
  }

  -- With the chains by first step and by second step the watched rules can be judged.
  pub watching :
      (wxheads wxnexts wyheads wynexts : List ℕ) → ChainsBy counts.steps counts.watched wxs wxheads wxnexts →
      ChainsBy counts.steps counts.watched wys wyheads wynexts →
      Watching counts.steps counts.watched wxs wys wcs wxheads wxnexts wyheads wynexts
  watching wxheads wxnexts wyheads wynexts by_first by_second = record {
    watched_room = fewer_room counts.watched WATCHED (columns wxs wys wcs) border.sound.counts_in.watched_in border.room.watched_room;
    in_bounds = border.sound.watched_good;
    by_first = by_first;
    by_second = by_second;
  }
