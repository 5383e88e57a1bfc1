-- What the answers of a script say, from the text of its commands alone.
use Rattle.std.specs.Prelude.{ℕ, ◌+◌, ◌≡◌, List, ◌↔◌, take, drop}
use Rattle.reading.specs.Tree.{Command}
use Rattle.reading.specs.Reading.{Read}
use Rattle.script_meaning.specs.Record.{Lent}
use Rattle.script_meaning.specs.Effect.{shown, SAT, UNSAT, UNSUPPORTED}
use Rattle.script_meaning.specs.Traces.{History, follows, Satisfiable, Soonest}
use Rattle.script_meaning.specs.Whole.{Plays, read_at, after_command}

-- The n bytes from place k on.
abbrev pub part : ℕ → ℕ → List ℕ → List ℕ
part k n out = take n (drop k out)

-- What stands in `out`, n bytes from place k on, after a text that was read as r was carried out where h is asserted. For `check-sat`: `sat` exactly when h is
-- satisfiable, and `unsat` exactly when it is not. For `get_value`: each name asked for with its day in the earliest plan of h.
abbrev pub Answered : Read Command → History → ℕ → ℕ → List ℕ → Type 0
Answered (Read.got Command.set_logic e) h k n out = n ≡ 0
Answered (Read.got Command.check_sat e) h k n out = ((part k n out ≡ SAT) ↔ Satisfiable h) × ((part k n out ≡ UNSAT) ↔ (Satisfiable h → ⊥))
Answered (Read.got Command.exit e) h k n out = n ≡ 0
Answered (Read.got (Command.declare w) e) h k n out = n ≡ 0
Answered (Read.got (Command.assert t) e) h k n out = n ≡ 0
Answered (Read.got (Command.push m) e) h k n out = n ≡ 0
Answered (Read.got (Command.pop m) e) h k n out = n ≡ 0
Answered (Read.got (Command.get_value ws) e) h k n out = (p : List ℕ → ℕ) × (Soonest h p × (part k n out ≡ shown p ws))
Answered (Read.stop w i) h k n out = part k n out ≡ UNSUPPORTED

-- Every command that is carried out as the script plays, from where h is asserted on, is answered so in the bytes that are left in the end.
abbrev pub AllAnswered : (s : List ℕ) (i : ℕ) (l : Lent) (k g v : ℕ) (out : List ℕ) → Plays s i l k g v out → History → Type 0
AllAnswered s i l k g v out (Plays.at_end _ _ _ over) h = Unit {0}
AllAnswered s i l k g v out (Plays.no_room _ _ _ some full) h = Unit {0}
AllAnswered s i l k g v out (Plays.refused _ _ _ _ some room unmet refuses) h = Unit {0}
AllAnswered s i l k g v out (Plays.exited _ _ m _ w some room met does exit) h = Unit {0}
AllAnswered s i l k g v out (Plays.goes_on _ _ m _ w _ _ _ some room met does stays onward) h =
    Answered (read_at s i) h k w out × AllAnswered s (after_command s i) m (k + w) g v out onward (follows (read_at s i) h)
