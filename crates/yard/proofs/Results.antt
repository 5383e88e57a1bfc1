-- From the functions' own promises to those of the calls: the slacks of all ways, the gap table written or raised, and the answer whether it is right.
use Prim.Native.Nat.{ℕ, ◌≤◌, ◌<◌}
use native.Mathlib.Omega.{arith}
use native.Mathlib.Decide.{dec_lt, dec_le}
use mathlib.Core.Path.{◌≡◌, refl, sym, ◌∙◌, ap, subst}
use mathlib.Core.Bool.{Bool}
use mathlib.Core.List.{List, [], ◌++◌}
use lib.ListN.{length, get_or, take, drop}
use Rattle.std.proofs.lemmas.List.{get_or-take}
use lib.IntN.{ℤ, pos}
use Rattle.meaning.specs.declared.Counts.{Counts}
use Rattle.meaning.specs.Bounds.{YARD_STEPS}
use Rattle.meaning.specs.Tables.{Tables, at, Sound}
use Rattle.meaning.specs.Calls.{rules_of, held_in}
use Rattle.lent.specs.Decides.{Decides}
use Rattle.lent.specs.Idle.{unwatched}
use Rattle.lent.specs.Promises.{Border}
use Rattle.gaps.specs.Gaps.{Gaps, cell, Says, InYard, Right, Remade}
use Rattle.gaps.specs.Slacks.{Slacks, SmallerOf, Raised}
use Rattle.gaps.proofs.Limits.{says_unique}
use Rattle.gaps.proofs.Right.{slack_says}
use Rattle.yard.specs.Cells.{limit}
use Rattle.yard.specs.Squares.{way, Closed}
use Rattle.std.proofs.Common.{int_eq, true≢false}
use Rattle.std.specs.Cmp.Lexicographic.{pointwise}
use Rattle.std.proofs.lemmas.List.{ext_get_or}
use Rattle.std.proofs.lemmas.Bool.Decides.{Decides-int_eq}
use Rattle.std.proofs.lemmas.Slice.Eq.{slice_eq-Decides}
use Rattle.yard.proofs.Making.{made_front}
use Rattle.yard.specs.Tables.{Made, TableMade, Slackable, Single}

-- ---- what is needed

-- Sound tables of one yard have what the slacks need.
pub slackable :
    (counts : Counts) (xs ys : List ℕ) (cs : List ℤ) (days levels : List ℕ) → Border (unwatched counts xs ys cs days levels) → counts.steps ≤ YARD_STEPS →
    Slackable counts.rules xs ys cs days levels
slackable counts xs ys cs days levels border few = record {
  firsts_room = border.room.rules_room.firsts_room;
  seconds_room = border.room.rules_room.seconds_room;
  amounts_room = border.room.rules_room.amounts_room;
  days_room = omega (arith, border.room.days_room);
  levels_room = border.room.levels_room;
  counted = border.sound.rules_counted;
  steps_in = λ i h. record {
    first_in = omega (arith, few, (border.sound.rules_good i h).steps_in.first_in);
    second_in = omega (arith, few, (border.sound.rules_good i h).steps_in.second_in);
  };
  kept = border.sound.days_earliest.plan;
}

-- ---- the gap table cell by cell

-- No cell is kept of more steps than one yard has.
many : {n x y : ℕ} → YARD_STEPS < n → InYard n x y → ⊥
many more in-yard = omega (arith, more, in-yard.one_yard)

module _ {P : ℕ → ℕ → ℤ → Type 0} {n : ℕ} {before after : Gaps} (m : TableMade P n before after) where
  table_cell : (x y : ℕ) → InYard n x y → P x y (cell after x y)
  table_cell x y in-yard = (m.made x in-yard.row_in).made y in-yard.column_in

  table_other : n ≤ YARD_STEPS → (x y : ℕ) → (InYard n x y → ⊥) → cell after x y ≡ cell before x y
  table_other few x y out = tell (dec_lt x n) (dec_lt y n)
    where
      tell : Dec (x < n) → Dec (y < n) → cell after x y ≡ cell before x y
      tell (yes h) (yes g) = absurd (out (record { one_yard = few; row_in = h; column_in = g }))
      tell (yes h) (no g) = (m.made x h).rest y (omega arith)
      tell (no h) g = ap (λ (l : List ℤ). get_or l y (pos 0)) (m.rest x (omega arith))

  table_long : (x : ℕ) → length (get_or after x []) ≡ length (get_or before x [])
  table_long x = tell (dec_lt x n)
    where
      tell : Dec (x < n) → length (get_or after x []) ≡ length (get_or before x [])
      tell (yes h) = (m.made x h).long
      tell (no h) = ap length (m.rest x (omega arith))

-- ---- made afresh

-- The cell of a pair's slack says what is so, so that what is written from the slacks is right.
pub remade :
    (t : Tables) → Sound t → (single square : List (List ℕ)) {before after : Gaps} → t.counts.steps ≤ YARD_STEPS →
    Single (rules_of t) (held_in t) (at t.days) single → Closed t.counts.steps single square →
    TableMade (λ x y z. z ≡ limit (way square x y) (at t.days x) (at t.days y)) t.counts.steps before after → Remade t before after
remade t sound single square few s closed m = record {
  right =
      λ x y in-yard.
      subst (Says (rules_of t) (held_in t) x y)
      (sym (table_cell m x y in-yard ∙ ap (λ (w : ℕ). limit w (at t.days x) (at t.days y)) (closed x y in-yard.row_in in-yard.column_in)))
      (slack_says t sound (way single) slacks x y in-yard);
  others = table_other m few;
  as_many = m.long;
  as_long = table_long m;
}
  where
    slacks : Slacks t.counts.steps (rules_of t) (held_in t) (at t.days) (way single)
    slacks = record {
      self = λ v h. s.slacks.self v (omega arith);
      under = s.slacks.under;
      given = λ x y h g. s.slacks.given x y (omega arith) (omega arith);
    }

-- ---- compared

module _ (t : Tables) (gaps : Gaps) {made : Gaps} (m : Remade t gaps made) where
  -- A right gap table has the same cells as one that was made afresh in its place.
  same_cells : Right t gaps → (x y : ℕ) → cell made x y ≡ cell gaps x y
  same_cells right x y = tell (dec_le t.counts.steps YARD_STEPS) (dec_lt x t.counts.steps) (dec_lt y t.counts.steps)
    where
      tell : Dec (t.counts.steps ≤ YARD_STEPS) → Dec (x < t.counts.steps) → Dec (y < t.counts.steps) → cell made x y ≡ cell gaps x y
      tell (yes few) (yes h) (yes g) =
          let in-yard : InYard t.counts.steps x y = record { one_yard = few; row_in = h; column_in = g } in
          says_unique {R = rules_of t} {H = held_in t} {x = x} {y = y} (m.right x y in-yard) (right x y in-yard)
      tell (no many) h g = m.others x y (λ in-yard. many in-yard.one_yard)
      tell (yes few) (no past) g = m.others x y (λ in-yard. past in-yard.row_in)
      tell (yes few) (yes h) (no past) = m.others x y (λ in-yard. past in-yard.column_in)

  same_table : Right t gaps → made ≡ gaps
  same_table right =
      ext_get_or [] made gaps m.as_many
      (λ x h. ext_get_or (pos 0) (get_or made x []) (get_or gaps x []) (m.as_long x) (λ y g. same_cells right x y))

  -- So the comparison of the two tells whether it is right.
  pub compared : (r : Bool) → r ≡ pointwise (pointwise int_eq) made gaps → Decides r (Right t gaps)
  compared r is =
      let same = slice_eq-Decides (λ (a b : List ℤ). slice_eq-Decides Decides-int_eq a b _ refl) made gaps r is in
      record { so = λ e. subst (Right t) (same.0 e) m.right; not_so = λ e right. true≢false (sym (same.1 (same_table right)) ∙ e) }

-- ---- raised

-- The row in place i has the ways over a rule of the amount c, from the step x on, which go on by `via`, where it was in the gap table before.
abbrev pub RaisedRow : ℕ → ℕ → ℤ → List ℤ → Gaps → ℕ → List ℤ → Type 0
RaisedRow n x c via old i row = Made (pos 0) (λ j z. SmallerOf (cell old i j) (cell old i x) c (get_or via j (pos 0)) z) n (get_or old i []) row

-- Such a row, as the machine reads what it is made from.
pub raised_row :
    (n x i : ℕ) (c : ℤ) (via : List ℤ) (old : Gaps) {p c' : ℤ} {before row : List ℤ} → before ≡ get_or old i [] → p ≡ get_or before x (pos 0) → c' ≡ c →
    Made (pos 0) (λ j z. SmallerOf (get_or before j (pos 0)) p c' (get_or via j (pos 0)) z) n before row → RaisedRow n x c via old i row
raised_row n x i c via old {p} {c'} {before} {row} same read amount m =
    subst (λ (l : List ℤ). Made (pos 0) (λ j z. SmallerOf (get_or l j (pos 0)) (get_or l x (pos 0)) c (get_or via j (pos 0)) z) n l row) same
    (subst (λ (q : ℤ). Made (pos 0) (λ j z. SmallerOf (get_or before j (pos 0)) q c (get_or via j (pos 0)) z) n before row) read
    (subst (λ (e : ℤ). Made (pos 0) (λ j z. SmallerOf (get_or before j (pos 0)) p e (get_or via j (pos 0)) z) n before row) amount m))

pub raised_all :
    {n x y m : ℕ} {c c' : ℤ} {before front : Gaps} → n ≤ YARD_STEPS → length before ≡ YARD_STEPS → length (take n before) ≤ m → c' ≡ c →
    Made [] (RaisedRow n x c' (get_or before y []) (take n before)) m (take n before) front → Raised n x y c before (front ++ drop n before)
raised_all {n} {x} {y} {m} {c} {c'} {before} {front} few rows end amount made = record {
  smaller = table_cell all;
  others = table_other all few;
  as_many = all.long;
  as_long = table_long all;
}
  where
    all : TableMade (λ i j z. SmallerOf (cell before i j) (cell before i x) c (cell before y j) z) n before (front ++ drop n before)
    all =
        made_front (omega (arith, few, rows)) end
        (λ i h row.
        subst (λ (l : List ℤ). Made (pos 0) (λ j z. SmallerOf (get_or l j (pos 0)) (get_or l x (pos 0)) c' (cell before y j) z) n l row → Made (pos 0) (λ j z. SmallerOf (cell before i j) (cell before i x) c (cell before y j) z) n (get_or before i []) row)
        (sym (get_or-take n before i [] h))
        (subst (λ (e : ℤ). Made (pos 0) (λ j z. SmallerOf (cell before i j) (cell before i x) e (cell before y j) z) n (get_or before i []) row) amount))
        made
