-- What start and command ask of their inputs can be told: whether the tables have room and are sound, whether the names are in form and all different, and each need of a text.
use Prim.Native.Nat.{ℕ, ◌+◌, ◌*◌, ◌≤◌, ◌<◌}
use native.Mathlib.Decide.{ℕ_discrete, dec_le, dec_lt}
use mathlib.Core.Path.{◌≡◌, refl, ap, sym, ◌∙◌}
use mathlib.Core.Bool.{true, false, Bool-discrete}
use mathlib.Core.List.{List, [], ◌∷◌, ◌++◌}
use mathlib.Core.Logic.{inl, inr}
use lib.ListN.{length}
use Rattle.meaning.specs.Bounds.{STEPS, RULES, MARKS, NAME_BYTES, ROOM, DONE}
use Rattle.meaning.specs.Tables.{at}
use Rattle.meaning.specs.Promise.{Need, First}
use Rattle.meaning.proofs.Below.{both?, not?, leads?, in_words?, all_below?}
use Rattle.meaning.proofs.Decided.{in_amount?, room?, sound?}
use Rattle.text.specs.Lexicon.{Tok, SYMBOL, tok, token_at, same_bytes}
use Rattle.text.proofs.Equal.{same_equal, equal_same}
use Rattle.words.specs.Words.{reserved}
use Rattle.span.specs.Span.{span}
use Rattle.reading.specs.Tree.{Piece, said_by, Named, rules_of_term, Command}
use Rattle.reading.specs.Reading.{Why, Read, reading}
use Rattle.reading.specs.Saying.{term_needs, name_needs, said_needs}
use Rattle.names.specs.Names.{AllDifferent}
use Rattle.script_meaning.specs.Record.{Lent, StartRoom, ScriptRoom, InForm, ScriptSound, Known, name_of, step_of}
use Rattle.script_meaning.specs.Commands.{mode_needs, room_needs, command_needs, read_needs, text_needs}

-- ---- room

pub start_room? : (l : Lent) → Dec (StartRoom l)
start_room? l =
    in_words? (λ h. record { tables_room = h.0; names_room = h.1.0; lens_room = h.1.1 }) (λ r. (r.tables_room, (r.names_room, r.lens_room)))
    (both? (room? l.tables) (both? (dec_le (NAME_BYTES * STEPS) (length l.names)) (dec_le STEPS (length l.lens))))

pub script_room? : (k : ℕ) (l : Lent) → Dec (ScriptRoom k l)
script_room? k l =
    in_words? (λ h. record { start_room = h.0; out_room = h.1 }) (λ r. (r.start_room, r.out_room)) (both? (start_room? l) (dec_le (k + ROOM) (length l.out)))

-- ---- names

-- Whether two texts are the same, and two tokens.
bytes? : (k l : List ℕ) → Dec (k ≡ l)
bytes? k l = in_words? (same_equal k l) (λ e. ap (λ (x : List ℕ). same_bytes k x) (sym e) ∙ equal_same k) (Bool-discrete (same_bytes k l) true)

token? : (a b : Tok) → Dec (a ≡ b)
token? a b =
    in_words? (λ h i. record { kind = h.0 i; from = h.1.0 i; to = h.1.1 i }) (λ e. (ap (λ (t : Tok). t.kind) e, (ap (λ (t : Tok). t.from) e, ap (λ (t : Tok). t.to) e)))
    (both? (ℕ_discrete a.kind b.kind) (both? (ℕ_discrete a.from b.from) (ℕ_discrete a.to b.to)))

in_form? : (w : List ℕ) → Dec (InForm w)
in_form? w =
    in_words? (λ h. record { symbol = h.0; not_reserved = h.1.0; short = h.1.1 }) (λ f. (f.symbol, (f.not_reserved, f.short)))
    (both? (token? (token_at w 0) (tok SYMBOL 0 (length w))) (both? (Bool-discrete (reserved w) false) (dec_le (length w) NAME_BYTES)))

different? : (l : Lent) (n : ℕ) → Dec (AllDifferent n l.names l.lens)
different? l n =
    in_words? (λ h j k first below. h k below j first) (λ d k below j first. d j k first below)
    (all_below? (λ k. (j : ℕ) → j < k → name_of l j ≡ name_of l k → ⊥) (λ k. all_below? (λ j. name_of l j ≡ name_of l k → ⊥) (λ j. not? (bytes? (name_of l j) (name_of l k))) k) n)

-- ---- the record

pub script_sound? : (l : Lent) → Dec (ScriptSound l)
script_sound? l =
    in_words?
    (λ h. record {
      tables_sound = h.0.0;
      all_steps = h.0.1;
      names_in = h.1.0.0;
      names_short = h.1.0.1;
      names_in_form = h.1.1.0.0;
      names_different = h.1.1.0.1;
      level_open = h.1.1.1.0;
      no_sat = h.1.1.1.1;
    })
    (λ s. ((s.tables_sound, s.all_steps), ((s.names_in, s.names_short), ((s.names_in_form, s.names_different), (s.level_open, s.no_sat)))))
    (both? (both? (sound? l.tables) (ℕ_discrete l.tables.counts.steps STEPS))
    (both? (both? (dec_le n STEPS) (all_below? (λ k. at l.lens k ≤ NAME_BYTES) (λ k. dec_le (at l.lens k) NAME_BYTES) n))
    (both? (both? (all_below? (λ k. InForm (name_of l k)) (λ k. in_form? (name_of l k)) n) (different? l n))
    (both? (dec_le l.notes.broken (l.tables.counts.marks + 1)) (leads? (not? (ℕ_discrete l.notes.broken 0)) (Bool-discrete l.notes.sat false))))))
  where
    n : ℕ
    n = l.notes.names

-- ---- needs

-- Of each need it can be told whether it is met.
abbrev pub Told : List Need → Type 0
Told [] = Unit {0}
Told (n ∷ l) = Dec n.met × Told l

-- Then there is a first that is not met, or none.
pub first_told : (l : List Need) → Told l → (g : ℕ) × First l g
first_told [] told = (DONE, refl)
first_told (n ∷ l) (no unmet, told) = (n.number, inl (refl, unmet))
first_told (n ∷ l) (yes met, told) = let rest = first_told l told in (rest.0, inr (met, rest.1))

known? : (l : Lent) (w : List ℕ) → Dec (Known l w)
known? l w = dec_lt (step_of l w) l.notes.names

rules_told : (l : Lent) (rs : List Named) → Told (term_needs (Known l) rs)
rules_told l [] = tt
rules_told l (r ∷ rs) = (known? l r.first, (known? l r.second, (in_amount? r.amount, rules_told l rs)))

names_told : (l : Lent) (ws : List Piece) → Told (name_needs (Known l) ws)
names_told l [] = tt
names_told l (w ∷ ws) = (known? l w.letters, names_told l ws)

both_told : (a b : List Need) → Told a → Told b → Told (a ++ b)
both_told [] b x y = y
both_told (n ∷ a) b (here, x) y = (here, both_told a b x y)

mode_told : (c : Command) (l : Lent) → Told (mode_needs c l)
mode_told Command.set_logic l = (Bool-discrete l.notes.logic false, tt)
mode_told Command.check_sat l = (Bool-discrete l.notes.logic true, tt)
mode_told Command.exit l = tt
mode_told (Command.declare w) l = (Bool-discrete l.notes.logic true, tt)
mode_told (Command.assert t) l = (Bool-discrete l.notes.logic true, tt)
mode_told (Command.push n) l = (Bool-discrete l.notes.logic true, tt)
mode_told (Command.pop n) l = (Bool-discrete l.notes.logic true, tt)
mode_told (Command.get_value ws) l = (Bool-discrete l.notes.logic true, (Bool-discrete l.notes.sat true, tt))

said_told : (c : Command) (l : Lent) → Told (said_needs (Known l) c)
said_told Command.set_logic l = tt
said_told Command.check_sat l = tt
said_told Command.exit l = tt
said_told (Command.declare w) l = (not? (known? l w.letters), tt)
said_told (Command.assert t) l = rules_told l (rules_of_term false t)
said_told (Command.push n) l = tt
said_told (Command.pop n) l = tt
said_told (Command.get_value ws) l = names_told l ws

room_told : (c : Command) (l : Lent) → Told (room_needs c l)
room_told Command.set_logic l = tt
room_told Command.check_sat l = tt
room_told Command.exit l = tt
room_told (Command.declare w) l = (dec_lt l.notes.names STEPS, tt)
room_told (Command.assert t) l = (leads? (ℕ_discrete l.notes.broken 0) (dec_le (l.tables.counts.rules + length (rules_of_term false t)) RULES), tt)
room_told (Command.push n) l = (dec_le (l.tables.counts.marks + said_by n) MARKS, tt)
room_told (Command.pop n) l = (dec_le (said_by n) l.tables.counts.marks, tt)
room_told (Command.get_value ws) l = tt

pub command_told : (c : Command) (l : Lent) → Told (command_needs c l)
command_told c l =
    both_told (mode_needs c l) (said_needs (Known l) c ++ room_needs c l) (mode_told c l) (both_told (said_needs (Known l) c) (room_needs c l) (said_told c l) (room_told c l))

read_told : (r : Read Command) (l : Lent) → Told (read_needs r l)
read_told (Read.got c e) l = command_told c l
read_told (Read.stop Why.other i) l = tt
read_told (Read.stop Why.wrong i) l = (no (λ never. never), tt)
read_told (Read.stop Why.size i) l = (no (λ never. never), tt)

pub text_told : (text : List ℕ) (l : Lent) → Told (text_needs text l)
text_told text l = (dec_le 1 (span text), read_told (reading text) l)
