-- The steps that wait: each has a gain, and each group's leader has the largest gain in it.
use Rattle.std.specs.Prelude.{ℕ, suc, ◌*◌, ◌-◌, ◌/◌, ◌≤◌, ◌<◌, ◌≡◌, List}
use Rattle.meaning.specs.Tables.{at}
use Rattle.waiting.specs.Places.{GROUP, Put, LargestAt}
use Rattle.waiting.specs.declared.Waiting.{Waiting}

-- Each step that waits has a gain, and none has a larger one than the leader of its group.
pub record Led {N G : ℕ} (gains : List ℕ) (w : Waiting N G) : Type 0 where
  pub gain : (j : ℕ) → j < w.count → 0 < at gains (at w.list j)
  pub most : (j : ℕ) → j < w.count → at gains (at w.list j) ≤ at gains (at w.leaders (j / GROUP))

-- The same, but step y may have a larger gain than the leader of its group.
pub record LedBut {N G : ℕ} (y : ℕ) (gains : List ℕ) (w : Waiting N G) : Type 0 where
  pub gain : (j : ℕ) → j < w.count → 0 < at gains (at w.list j)
  pub most : (j : ℕ) → j < w.count → (at w.list j ≡ y → ⊥) → at gains (at w.list j) ≤ at gains (at w.leaders (j / GROUP))

-- Step y has a gain and does not wait yet, and there is room for it; it and its place are small enough to be kept.
pub record New {N G : ℕ} (gains : List ℕ) (w : Waiting N G) (y : ℕ) : Type 0 where
  pub step_in : y < N
  pub step_fits : y < 65536
  pub some : 0 < at gains y
  pub room : w.count < N
  pub groups_room : w.count < GROUP * G
  pub place_fits : w.count < 65536
  pub fresh : (j : ℕ) → j < w.count → at w.list j ≡ y → ⊥

-- Step y stands at the end of the list.
pub record Entered {N G : ℕ} (gains : List ℕ) (y : ℕ) (before after : Waiting N G) : Type 0 where
  pub one_more : after.count ≡ suc before.count
  pub put : Put before.count y (at before.list) (at after.list)
  pub led : Led gains after

-- The same steps stand in the list, and all are led.
pub record Risen {N G : ℕ} (gains : List ℕ) (before after : Waiting N G) : Type 0 where
  pub same_list : after.list ≡ before.list
  pub same_count : after.count ≡ before.count
  pub led : Led gains after

-- Step x, of largest gain, left the list from some place, and the last step has that place now.
pub record Taken {N G : ℕ} (gains : List ℕ) (x : ℕ) (before after : Waiting N G) : Type 0 where
  pub one_fewer : after.count ≡ before.count - 1
  pub place : ℕ
  pub there : at before.list place ≡ x
  pub largest : LargestAt (at gains) (at before.list) before.count place
  pub out : Put place (at before.list (before.count - 1)) (at before.list) (at after.list)
  pub led : Led gains after
