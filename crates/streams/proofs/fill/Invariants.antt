-- Each read goes to the place past what was read before it, so the bytes before `from` stay. The measure is the room that is left.
use Rattle.std.proofs.Common.{length, ◌-◌, ◌≡◌, ◌≤◌, take}
use Rattle.streams.proofs.fill.Given as goal

abbrev pub invariant-loop-at : goal.invariant-loop-at
invariant-loop-at l = record {
  same_length : length l.buf ≡ length l.fn.buf;
  in_bounds : l.at ≤ length l.fn.buf;
  from_le_at : l.fn.from ≤ l.at;
  buf_unchanged : take l.fn.from l.buf ≡ take l.fn.from l.fn.buf;
}

abbrev pub decreases-loop-at : goal.decreases-loop-at
decreases-loop-at l = length l.buf - l.at
