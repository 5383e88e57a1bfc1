-- A step of largest gain leaves the list: which one it is, and that all is led once its group and that of the last step have their leaders.
use Prim.Native.Nat.{ℕ, ◌+◌, ◌*◌, ◌-◌, ◌/◌, ◌≤◌, ◌<◌}
use native.Mathlib.Omega.{arith}
use native.Mathlib.Decide.{ℕ_discrete}
use mathlib.Core.Path.{◌≡◌, refl, sym, ◌∙◌, ap, subst}
use mathlib.Core.Logic.{◌⊎◌, inl, inr}
use Rattle.waiting.specs.Places.{GROUP, Put, LargestAt, LargestOf, InGroup, Regroupable, Regrouped}
use mathlib.Core.List.{List}
use lib.ListN.{length, set, take, length-set}
use Rattle.meaning.specs.Tables.{at}
use Rattle.waiting.proofs.Places.{put_set, put_here}
use Rattle.std.proofs.lemmas.List.{get_or-take, get_or-set_other, length-take-le}
use Rattle.std.proofs.lemmas.Grind.{get_or-set_at}
use Rattle.waiting.specs.declared.Waiting.{Waiting}
use Rattle.waiting.specs.Waiting.{Led}
use Rattle.waiting.proofs.Parts.{gain_place, largest_part, regrouped_part}

-- A step of largest gain among the first k of a list is one among its first n, where k is n, however k is reckoned.
pub first_part : {g : ℕ → ℕ} (l : List ℕ) {k n x : ℕ} → k ≡ n → LargestOf g (at (take k l)) (length (take k l)) x → LargestOf g (at (take n l)) (length (take n l)) x
first_part {g} l {k} {n} {x} same largest = subst (λ (m : ℕ). LargestOf g (at (take m l)) (length (take m l)) x) same largest

-- The steps that wait stand in the first k places of the list, with their places and their leaders, and all are led.
pub record Standing (n : ℕ) (g list places leaders : ℕ → ℕ) (k : ℕ) : Type 0 where
  pub below : (j : ℕ) → j < k → list j < n
  pub placed : (j : ℕ) → j < k → places (list j) ≡ j
  pub leader : (b : ℕ) → GROUP * b < k → (places (leaders b) < k) × (places (leaders b) / GROUP ≡ b) × (list (places (leaders b)) ≡ leaders b)
  pub gain : (j : ℕ) → j < k → 0 < g (list j)
  pub most : (j : ℕ) → j < k → g (list j) ≤ g (leaders (j / GROUP))

-- A step of largest gain has left, and all stand as before.
pub record Left (n : ℕ) (g list : ℕ → ℕ) (k x : ℕ) (list' places' leaders' : ℕ → ℕ) : Type 0 where
  pub place : ℕ
  pub there : list place ≡ x
  pub largest : LargestAt g list k place
  pub out : Put place (list (k - 1)) list list'
  pub standing : Standing n g list' places' leaders' (k - 1)

-- Step l leads group c among the first k places, where the group has one of them.
record Heads (g list : ℕ → ℕ) (k c l : ℕ) : Type 0 where
  leader : GROUP * c < k → InGroup list k c l
  most : (i : ℕ) → i < k → i / GROUP ≡ c → g (list i) ≤ g l

-- So does the same step.
heads_same : (g list : ℕ → ℕ) (k c l m : ℕ) → l ≡ m → Heads g list k c l → Heads g list k c m
heads_same g list k c l m e h = record {
  leader = λ some. turn (h.leader some);
  most = λ i i-in own. omega (arith, h.most i i-in own, ap g e);
}
  where
    turn : InGroup list k c l → InGroup list k c m
    turn p = record { place = p.place; place_in = p.place_in; in_group = p.in_group; there = p.there ∙ e }

-- A leader stands in its group.
in_group : (list places : ℕ → ℕ) (k b l : ℕ) → (places l < k) × (places l / GROUP ≡ b) × (list (places l) ≡ l) → InGroup list k b l
in_group list places k b l h = record { place = places l; place_in = h.0; in_group = h.1; there = h.2 }

module _
    (n : ℕ) (g list list' places places' leaders leaders₁ leaders₂ : ℕ → ℕ) (k b : ℕ) (some : 0 < k) (led : Standing n g list places leaders k)
    (inside : b < (k - 1) / GROUP + 1) (top : (c : ℕ) → c < (k - 1) / GROUP + 1 → g (leaders c) ≤ g (leaders b)) (put : Put (places (leaders b)) (list (k - 1)) list list')
    (placed : Put (list (k - 1)) (places (leaders b)) places places') (first : Regrouped g list' (k - 1) b leaders leaders₁)
    (second :
    ((leaders ((k - 1) / GROUP) ≡ list (k - 1)) × Regrouped g list' (k - 1) ((k - 1) / GROUP) leaders₁ leaders₂)
    ⊎ ((leaders ((k - 1) / GROUP) ≡ list (k - 1) → ⊥) × ((i : ℕ) → leaders₂ i ≡ leaders₁ i))) where
  -- Where the step stands that leaves.
  from : (places (leaders b) < k) × (places (leaders b) / GROUP ≡ b) × (list (places (leaders b)) ≡ leaders b)
  from = led.leader b (omega arith)

  -- No step of the list has a larger gain.
  largest : LargestAt g list k (places (leaders b))
  largest = record {
    place_in = from.0;
    largest = λ j j-in. omega (arith, led.most j j-in, top (j / GROUP) (omega arith), ap g from.2);
  }

  -- The last step stands nowhere else.
  before_last : (i : ℕ) → i < k - 1 → list i ≡ list (k - 1) → ⊥
  before_last i i-in e = omega (arith, led.placed i (omega arith), ap places e, led.placed (k - 1) (omega arith))

  -- Each place has a step that the list had.
  step : (i : ℕ) → i < k - 1 → Dec (i ≡ places (leaders b)) → list' i < n
  step i i-in (yes e) = omega (arith, put_here (places (leaders b)) (list (k - 1)) list list' put i e, led.below (k - 1) (omega arith))
  step i i-in (no e) = omega (arith, put.others i e, led.below i (omega arith))

  -- It has a gain.
  gain : (i : ℕ) → i < k - 1 → Dec (i ≡ places (leaders b)) → 0 < g (list' i)
  gain i i-in (yes e) = omega (arith, ap g (put_here (places (leaders b)) (list (k - 1)) list list' put i e), led.gain (k - 1) (omega arith))
  gain i i-in (no e) = omega (arith, ap g (put.others i e), led.gain i (omega arith))

  -- Its place is known.
  place : (i : ℕ) → i < k - 1 → Dec (i ≡ places (leaders b)) → places' (list' i) ≡ i
  place i i-in (yes e) =
      put_here (list (k - 1)) (places (leaders b)) places places' placed (list' i) (put_here (places (leaders b)) (list (k - 1)) list list' put i e) ∙ sym e
  place i i-in (no e) =
      ap places' (put.others i e) ∙ placed.others (list i) (before_last i i-in) ∙ led.placed i (omega arith)

  -- A group other than that of the step that leaves still has its leader, unless that was the last step.
  other_group : (c : ℕ) → (c ≡ b → ⊥) → (c ≡ (k - 1) / GROUP → leaders ((k - 1) / GROUP) ≡ list (k - 1) → ⊥) → Heads g list' (k - 1) c (leaders c)
  other_group c other not_last = record {
    leader = λ inside. tell (in_group list places k c (leaders c) (led.leader c (omega arith)));
    most = λ i i-in own. omega (arith, ap g (put.others i (elsewhere i own)), led.most i (omega arith), ap (λ (d : ℕ). g (leaders d)) own);
  }
    where
      elsewhere : (i : ℕ) → i / GROUP ≡ c → i ≡ places (leaders b) → ⊥
      elsewhere i own e = other (sym own ∙ ap (λ (j : ℕ). j / GROUP) e ∙ from.1)

      tell : InGroup list k c (leaders c) → InGroup list' (k - 1) c (leaders c)
      tell p = record {
        place = p.place;
        place_in = within (ℕ_discrete p.place (k - 1));
        in_group = p.in_group;
        there = put.others p.place (elsewhere p.place p.in_group) ∙ p.there;
      }
        where
          within : Dec (p.place ≡ k - 1) → p.place < k - 1
          within (yes e) =
              let end : c ≡ (k - 1) / GROUP = sym p.in_group ∙ ap (λ (j : ℕ). j / GROUP) e in
              absurd (not_last end (ap leaders (sym end) ∙ sym p.there ∙ ap list e))
          within (no e) = omega (arith, p.place_in)

  -- A search leaves a leader.
  found : (m m' : ℕ → ℕ) (c : ℕ) → Regrouped g list' (k - 1) c m m' → Heads g list' (k - 1) c (m' c)
  found m m' c r = record { leader = r.leader; most = r.most }

  -- After the first search.
  after_first :
      (c : ℕ) → (c ≡ (k - 1) / GROUP → leaders ((k - 1) / GROUP) ≡ list (k - 1) → ⊥) → Dec (c ≡ b) → Heads g list' (k - 1) c (leaders₁ c)
  after_first c not_last (yes e) = subst (λ (d : ℕ). Heads g list' (k - 1) d (leaders₁ d)) (sym e) (found leaders leaders₁ b first)
  after_first c not_last (no e) = heads_same g list' (k - 1) c (leaders c) (leaders₁ c) (sym (first.others c e)) (other_group c e not_last)

  -- After the second.
  heads : (c : ℕ) → Heads g list' (k - 1) c (leaders₂ c)
  heads c = tell second (ℕ_discrete c ((k - 1) / GROUP))
    where
      tell :
          ((leaders ((k - 1) / GROUP) ≡ list (k - 1)) × Regrouped g list' (k - 1) ((k - 1) / GROUP) leaders₁ leaders₂)
          ⊎ ((leaders ((k - 1) / GROUP) ≡ list (k - 1) → ⊥) × ((i : ℕ) → leaders₂ i ≡ leaders₁ i)) →
          Dec (c ≡ (k - 1) / GROUP) → Heads g list' (k - 1) c (leaders₂ c)
      tell (inl (e, r)) (yes h) = subst (λ (d : ℕ). Heads g list' (k - 1) d (leaders₂ d)) (sym h) (found leaders₁ leaders₂ ((k - 1) / GROUP) r)
      tell (inl (e, r)) (no h) =
          heads_same g list' (k - 1) c (leaders₁ c) (leaders₂ c) (sym (r.others c h)) (after_first c (λ end last. h end) (ℕ_discrete c b))
      tell (inr (e, same)) h =
          heads_same g list' (k - 1) c (leaders₁ c) (leaders₂ c) (sym (same c)) (after_first c (λ end last. e last) (ℕ_discrete c b))

  -- So a step has left.
  pub left : Left n g list k (leaders b) list' places' leaders₂
  left = record {
    place = places (leaders b);
    there = from.2;
    largest = largest;
    out = put;
    standing = record {
      below = λ i i-in. step i i-in (ℕ_discrete i (places (leaders b)));
      placed = λ i i-in. place i i-in (ℕ_discrete i (places (leaders b)));
      leader = λ c inside. known c ((heads c).leader inside);
      gain = λ i i-in. gain i i-in (ℕ_discrete i (places (leaders b)));
      most = λ i i-in. (heads (i / GROUP)).most i i-in refl;
    };
  }
    where
      known :
          (c : ℕ) → InGroup list' (k - 1) c (leaders₂ c) →
          (places' (leaders₂ c) < k - 1) × (places' (leaders₂ c) / GROUP ≡ c) × (list' (places' (leaders₂ c)) ≡ leaders₂ c)
      known c p =
          let here : places' (leaders₂ c) ≡ p.place = ap places' (sym p.there) ∙ place p.place p.place_in (ℕ_discrete p.place (places (leaders b))) in
          (omega (arith, here, p.place_in), ap (λ (i : ℕ). i / GROUP) here ∙ p.in_group, ap list' here ∙ p.there)

-- The list once the last step has the place of step x.
abbrev pub filled : {N G : ℕ} → Waiting N G → ℕ → List ℕ
filled w x = set w.list (at w.places x) (at w.list (w.count - 1))

-- The steps that are left then.
abbrev pub left_over : {N G : ℕ} → Waiting N G → ℕ → List ℕ
left_over w x = take (w.count - 1) (filled w x)

-- The last group gets a new leader too where the last step led it.
abbrev pub Second : {N G : ℕ} → List ℕ → Waiting N G → ℕ → List ℕ → List ℕ → Type 0
Second gains w x leaders₁ leaders₂ =
    ((at w.leaders ((w.count - 1) / GROUP) ≡ at w.list (w.count - 1))
    × Regrouped (at gains) (at (left_over w x)) (length (left_over w x)) ((w.count - 1) / GROUP) (at leaders₁) (at leaders₂))
    ⊎ ((at w.leaders ((w.count - 1) / GROUP) ≡ at w.list (w.count - 1) → ⊥) × (leaders₂ ≡ leaders₁))

-- The steps that are left have gains to be read, so a group can be looked through.
pub regroupable :
    {N G : ℕ} (gains : List ℕ) (w : Waiting N G) (leaders : List ℕ) (x b : ℕ) → length w.list ≡ N → length leaders ≡ G → 0 < w.count → Led gains w →
    b < (w.count - 1) / GROUP + 1 → Regroupable gains (take (w.count - 1) (filled w x)) leaders b
regroupable gains w leaders x b list_room leaders_room some led b-in = record {
  group_fits = omega (arith, w.places_fit);
  leaders_room = omega (arith, taken_length, w.groups);
  gains_room = λ i i-in. gain_place gains (at (take (w.count - 1) (filled w x)) i) (has i (omega (arith, taken_length)) (ℕ_discrete i (at w.places x)));
}
  where
    taken_length : length (take (w.count - 1) (filled w x)) ≡ w.count - 1
    taken_length = length-take-le (w.count - 1) (filled w x) (omega (arith, w.within, length-set w.list (at w.places x) (at w.list (w.count - 1))))

    has : (i : ℕ) → i < w.count - 1 → Dec (i ≡ at w.places x) → 0 < at gains (at (take (w.count - 1) (filled w x)) i)
    has i i-in (yes e) =
        rw (get_or-take (w.count - 1) (filled w x) i 0 i-in, get_or-set_at w.list (at w.places x) i (at w.list (w.count - 1)) 0 e (omega (arith, w.within)))
        (led.gain (w.count - 1) (omega arith))
    has i i-in (no e) =
        rw (get_or-take (w.count - 1) (filled w x) i 0 i-in, get_or-set_other w.list (at w.places x) i (at w.list (w.count - 1)) 0 e)
        (led.gain i (omega arith))

-- What the code finds and writes: the step of the largest leader, the last step in its place, and leaders for the two groups.
pub took :
    {N G : ℕ} (gains : List ℕ) (w : Waiting N G) (leaders₁ leaders₂ : List ℕ) (x : ℕ) → length w.list ≡ N → length w.places ≡ N → length w.leaders ≡ G →
    0 < w.count → Led gains w →
    LargestOf (at gains) (at (take ((w.count - 1) / GROUP + 1) w.leaders)) (length (take ((w.count - 1) / GROUP + 1) w.leaders)) x →
    Regrouped (at gains) (at (left_over w x)) (length (left_over w x)) (at w.places x / GROUP) (at w.leaders) (at leaders₁) →
    Second gains w x leaders₁ leaders₂ →
    Left N (at gains) (at w.list) w.count x (at (filled w x)) (at (set w.places (at w.list (w.count - 1)) (at w.places x))) (at leaders₂)
took {N} gains w leaders₁ leaders₂ x list_room places_room leaders_room some led found =
    subst
    (λ (y : ℕ).
    Regrouped (at gains) (at (left_over w y)) (length (left_over w y)) (at w.places y / GROUP) (at w.leaders) (at leaders₁) → Second gains w y leaders₁ leaders₂ →
    Left N (at gains) (at w.list) w.count y (at (filled w y)) (at (set w.places (at w.list (w.count - 1)) (at w.places y))) (at leaders₂))
    top.there
    (λ first second.
    left N (at gains) (at w.list) (at (filled w x')) (at w.places) (at (set w.places (at w.list end) (at w.places x'))) (at w.leaders) (at leaders₁) (at leaders₂) w.count b some
    (record { below = w.below; placed = w.placed; leader = w.leader; gain = led.gain; most = led.most }) top.place_in
    (λ c c-in. omega (arith, top.largest c c-in, ap (at gains) top.there))
    (put_set w.list (at w.places x') (at w.list end) (omega (arith, w.within, known.0)))
    (put_set w.places (at w.list end) (at w.places x') (omega (arith, w.below end (omega arith))))
    (rw known.1 at (regrouped_part (at gains) (filled w x') end (at w.places x' / GROUP) (at w.leaders) (at leaders₁) room first))
    (whole second))
  where
    end : ℕ
    end = w.count - 1

    top : LargestOf (at gains) (at w.leaders) (end / GROUP + 1) x
    top = largest_part (at gains) w.leaders (end / GROUP + 1) x (omega (arith, w.groups)) found

    b : ℕ
    b = top.place

    x' : ℕ
    x' = at w.leaders b

    known : (at w.places x' < w.count) × (at w.places x' / GROUP ≡ b) × (at w.list (at w.places x') ≡ x')
    known = w.leader b (omega (arith, top.place_in))

    room : end ≤ length (filled w x')
    room = omega (arith, w.within, length-set w.list (at w.places x') (at w.list end))

    whole :
        Second gains w x' leaders₁ leaders₂ →
        ((at w.leaders (end / GROUP) ≡ at w.list end) × Regrouped (at gains) (at (filled w x')) end (end / GROUP) (at leaders₁) (at leaders₂))
        ⊎ ((at w.leaders (end / GROUP) ≡ at w.list end → ⊥) × ((i : ℕ) → at leaders₂ i ≡ at leaders₁ i))
    whole (inl (e, r)) = inl (e, regrouped_part (at gains) (filled w x') end (end / GROUP) (at leaders₁) (at leaders₂) room r)
    whole (inr (e, same)) = inr (e, λ i. ap (λ (l : List ℕ). at l i) same)

-- The place of the step that leaves is one that is taken.
pub taken_place :
    {N G : ℕ} (gains : List ℕ) (w : Waiting N G) (x : ℕ) → length w.leaders ≡ G → 0 < w.count →
    LargestOf (at gains) (at (take ((w.count - 1) / GROUP + 1) w.leaders)) (length (take ((w.count - 1) / GROUP + 1) w.leaders)) x → at w.places x < w.count
taken_place gains w x leaders_room some found =
    let top = largest_part (at gains) w.leaders ((w.count - 1) / GROUP + 1) x (omega (arith, w.groups)) found in
    omega (arith, (w.leader top.place (omega (arith, top.place_in))).0, ap (at w.places) top.there)
