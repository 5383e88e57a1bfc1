-- The number under which C is given each refusal, and the ring's length that a conflict carries.
use Rattle.std.specs.Prelude.{ℕ}
use Rattle.meaning.specs.declared.Refusal.{Refusal}
use Rattle.meaning.specs.declared.Refusal.TheVariants.{Short, Damaged, Step, Amount, Full, Conflict, NoMark, Syntax, Mode, Name, Size, Absent, Yard}
use Rattle.meaning.specs.Bounds.{SHORT, DAMAGED, STEP, AMOUNT, FULL, CONFLICT, NOMARK, SYNTAX, MODE, NAME, SIZE, ABSENT, YARD}

-- The refusal's number.
abbrev pub number_of : Refusal → ℕ
number_of Short = SHORT
number_of Damaged = DAMAGED
number_of Step = STEP
number_of Amount = AMOUNT
number_of Full = FULL
number_of (Conflict length) = CONFLICT
number_of NoMark = NOMARK
number_of Syntax = SYNTAX
number_of Mode = MODE
number_of Name = NAME
number_of Size = SIZE
number_of Absent = ABSENT
number_of Yard = YARD

-- How many rules the ring of a conflict has; 0 for any other refusal.
abbrev pub ring_of : Refusal → ℕ
ring_of (Conflict length) = length
ring_of Short = 0
ring_of Damaged = 0
ring_of Step = 0
ring_of Amount = 0
ring_of Full = 0
ring_of NoMark = 0
ring_of Syntax = 0
ring_of Mode = 0
ring_of Name = 0
ring_of Size = 0
ring_of Absent = 0
ring_of Yard = 0
