-- The words that scripts are made of, as bytes: what is reserved, the listed commands, and the words of terms.
use Rattle.std.specs.Prelude.{ℕ, Bool, false, List, [], ◌∷◌}
use Rattle.text.specs.Lexicon.{either, same_bytes}

-- The word is one of the list.
abbrev pub among : List ℕ → List (List ℕ) → Bool
among w [] = false
among w (v ∷ l) = either (same_bytes w v) (among w l)

-- The general reserved words of SMT-LIB 2.6. ! _ as BINARY DECIMAL exists HEXADECIMAL forall let match NUMERAL par STRING
abbrev pub GENERAL : List (List ℕ)
GENERAL =
    (33 ∷ [])
    ∷ (95 ∷ [])
    ∷ (97 ∷ 115 ∷ [])
    ∷ (66 ∷ 73 ∷ 78 ∷ 65 ∷ 82 ∷ 89 ∷ [])
    ∷ (68 ∷ 69 ∷ 67 ∷ 73 ∷ 77 ∷ 65 ∷ 76 ∷ [])
    ∷ (101 ∷ 120 ∷ 105 ∷ 115 ∷ 116 ∷ 115 ∷ [])
    ∷ (72 ∷ 69 ∷ 88 ∷ 65 ∷ 68 ∷ 69 ∷ 67 ∷ 73 ∷ 77 ∷ 65 ∷ 76 ∷ [])
    ∷ (102 ∷ 111 ∷ 114 ∷ 97 ∷ 108 ∷ 108 ∷ [])
    ∷ (108 ∷ 101 ∷ 116 ∷ [])
    ∷ (109 ∷ 97 ∷ 116 ∷ 99 ∷ 104 ∷ [])
    ∷ (78 ∷ 85 ∷ 77 ∷ 69 ∷ 82 ∷ 65 ∷ 76 ∷ [])
    ∷ (112 ∷ 97 ∷ 114 ∷ [])
    ∷ (83 ∷ 84 ∷ 82 ∷ 73 ∷ 78 ∷ 71 ∷ [])
    ∷ []

-- The command names of SMT-LIB 2.6, from assert to exit. assert check-sat check-sat-assuming declare-const declare-datatype declare-datatypes declare-fun declare-sort define-fun define-fun-rec define-funs-rec define-sort echo exit
abbrev pub COMMANDS_A_E : List (List ℕ)
COMMANDS_A_E =
    (97 ∷ 115 ∷ 115 ∷ 101 ∷ 114 ∷ 116 ∷ [])
    ∷ (99 ∷ 104 ∷ 101 ∷ 99 ∷ 107 ∷ 45 ∷ 115 ∷ 97 ∷ 116 ∷ [])
    ∷ (99 ∷ 104 ∷ 101 ∷ 99 ∷ 107 ∷ 45 ∷ 115 ∷ 97 ∷ 116 ∷ 45 ∷ 97 ∷ 115 ∷ 115 ∷ 117 ∷ 109 ∷ 105 ∷ 110 ∷ 103 ∷ [])
    ∷ (100 ∷ 101 ∷ 99 ∷ 108 ∷ 97 ∷ 114 ∷ 101 ∷ 45 ∷ 99 ∷ 111 ∷ 110 ∷ 115 ∷ 116 ∷ [])
    ∷ (100 ∷ 101 ∷ 99 ∷ 108 ∷ 97 ∷ 114 ∷ 101 ∷ 45 ∷ 100 ∷ 97 ∷ 116 ∷ 97 ∷ 116 ∷ 121 ∷ 112 ∷ 101 ∷ [])
    ∷ (100 ∷ 101 ∷ 99 ∷ 108 ∷ 97 ∷ 114 ∷ 101 ∷ 45 ∷ 100 ∷ 97 ∷ 116 ∷ 97 ∷ 116 ∷ 121 ∷ 112 ∷ 101 ∷ 115 ∷ [])
    ∷ (100 ∷ 101 ∷ 99 ∷ 108 ∷ 97 ∷ 114 ∷ 101 ∷ 45 ∷ 102 ∷ 117 ∷ 110 ∷ [])
    ∷ (100 ∷ 101 ∷ 99 ∷ 108 ∷ 97 ∷ 114 ∷ 101 ∷ 45 ∷ 115 ∷ 111 ∷ 114 ∷ 116 ∷ [])
    ∷ (100 ∷ 101 ∷ 102 ∷ 105 ∷ 110 ∷ 101 ∷ 45 ∷ 102 ∷ 117 ∷ 110 ∷ [])
    ∷ (100 ∷ 101 ∷ 102 ∷ 105 ∷ 110 ∷ 101 ∷ 45 ∷ 102 ∷ 117 ∷ 110 ∷ 45 ∷ 114 ∷ 101 ∷ 99 ∷ [])
    ∷ (100 ∷ 101 ∷ 102 ∷ 105 ∷ 110 ∷ 101 ∷ 45 ∷ 102 ∷ 117 ∷ 110 ∷ 115 ∷ 45 ∷ 114 ∷ 101 ∷ 99 ∷ [])
    ∷ (100 ∷ 101 ∷ 102 ∷ 105 ∷ 110 ∷ 101 ∷ 45 ∷ 115 ∷ 111 ∷ 114 ∷ 116 ∷ [])
    ∷ (101 ∷ 99 ∷ 104 ∷ 111 ∷ [])
    ∷ (101 ∷ 120 ∷ 105 ∷ 116 ∷ [])
    ∷ []

-- The command names of SMT-LIB 2.6, from get-assertions to set-option. get-assertions get-assignment get-info get-model get-option get-proof get-unsat-assumptions get-unsat-core get-value pop push reset reset-assertions set-info set-logic set-option
abbrev pub COMMANDS_G_S : List (List ℕ)
COMMANDS_G_S =
    (103 ∷ 101 ∷ 116 ∷ 45 ∷ 97 ∷ 115 ∷ 115 ∷ 101 ∷ 114 ∷ 116 ∷ 105 ∷ 111 ∷ 110 ∷ 115 ∷ [])
    ∷ (103 ∷ 101 ∷ 116 ∷ 45 ∷ 97 ∷ 115 ∷ 115 ∷ 105 ∷ 103 ∷ 110 ∷ 109 ∷ 101 ∷ 110 ∷ 116 ∷ [])
    ∷ (103 ∷ 101 ∷ 116 ∷ 45 ∷ 105 ∷ 110 ∷ 102 ∷ 111 ∷ [])
    ∷ (103 ∷ 101 ∷ 116 ∷ 45 ∷ 109 ∷ 111 ∷ 100 ∷ 101 ∷ 108 ∷ [])
    ∷ (103 ∷ 101 ∷ 116 ∷ 45 ∷ 111 ∷ 112 ∷ 116 ∷ 105 ∷ 111 ∷ 110 ∷ [])
    ∷ (103 ∷ 101 ∷ 116 ∷ 45 ∷ 112 ∷ 114 ∷ 111 ∷ 111 ∷ 102 ∷ [])
    ∷ (103 ∷ 101 ∷ 116 ∷ 45 ∷ 117 ∷ 110 ∷ 115 ∷ 97 ∷ 116 ∷ 45 ∷ 97 ∷ 115 ∷ 115 ∷ 117 ∷ 109 ∷ 112 ∷ 116 ∷ 105 ∷ 111 ∷ 110 ∷ 115 ∷ [])
    ∷ (103 ∷ 101 ∷ 116 ∷ 45 ∷ 117 ∷ 110 ∷ 115 ∷ 97 ∷ 116 ∷ 45 ∷ 99 ∷ 111 ∷ 114 ∷ 101 ∷ [])
    ∷ (103 ∷ 101 ∷ 116 ∷ 45 ∷ 118 ∷ 97 ∷ 108 ∷ 117 ∷ 101 ∷ [])
    ∷ (112 ∷ 111 ∷ 112 ∷ [])
    ∷ (112 ∷ 117 ∷ 115 ∷ 104 ∷ [])
    ∷ (114 ∷ 101 ∷ 115 ∷ 101 ∷ 116 ∷ [])
    ∷ (114 ∷ 101 ∷ 115 ∷ 101 ∷ 116 ∷ 45 ∷ 97 ∷ 115 ∷ 115 ∷ 101 ∷ 114 ∷ 116 ∷ 105 ∷ 111 ∷ 110 ∷ 115 ∷ [])
    ∷ (115 ∷ 101 ∷ 116 ∷ 45 ∷ 105 ∷ 110 ∷ 102 ∷ 111 ∷ [])
    ∷ (115 ∷ 101 ∷ 116 ∷ 45 ∷ 108 ∷ 111 ∷ 103 ∷ 105 ∷ 99 ∷ [])
    ∷ (115 ∷ 101 ∷ 116 ∷ 45 ∷ 111 ∷ 112 ∷ 116 ∷ 105 ∷ 111 ∷ 110 ∷ [])
    ∷ []

-- A reserved word: no name.
abbrev pub reserved : List ℕ → Bool
reserved w = either (among w GENERAL) (either (among w COMMANDS_A_E) (among w COMMANDS_G_S))

-- set-logic
abbrev pub W_set_logic : List ℕ
W_set_logic = 115 ∷ 101 ∷ 116 ∷ 45 ∷ 108 ∷ 111 ∷ 103 ∷ 105 ∷ 99 ∷ []

-- declare-fun
abbrev pub W_declare_fun : List ℕ
W_declare_fun = 100 ∷ 101 ∷ 99 ∷ 108 ∷ 97 ∷ 114 ∷ 101 ∷ 45 ∷ 102 ∷ 117 ∷ 110 ∷ []

-- assert
abbrev pub W_assert : List ℕ
W_assert = 97 ∷ 115 ∷ 115 ∷ 101 ∷ 114 ∷ 116 ∷ []

-- push
abbrev pub W_push : List ℕ
W_push = 112 ∷ 117 ∷ 115 ∷ 104 ∷ []

-- pop
abbrev pub W_pop : List ℕ
W_pop = 112 ∷ 111 ∷ 112 ∷ []

-- check-sat
abbrev pub W_check_sat : List ℕ
W_check_sat = 99 ∷ 104 ∷ 101 ∷ 99 ∷ 107 ∷ 45 ∷ 115 ∷ 97 ∷ 116 ∷ []

-- get-value
abbrev pub W_get_value : List ℕ
W_get_value = 103 ∷ 101 ∷ 116 ∷ 45 ∷ 118 ∷ 97 ∷ 108 ∷ 117 ∷ 101 ∷ []

-- exit
abbrev pub W_exit : List ℕ
W_exit = 101 ∷ 120 ∷ 105 ∷ 116 ∷ []

-- QF_IDL
abbrev pub W_QF_IDL : List ℕ
W_QF_IDL = 81 ∷ 70 ∷ 95 ∷ 73 ∷ 68 ∷ 76 ∷ []

-- Int
abbrev pub W_Int : List ℕ
W_Int = 73 ∷ 110 ∷ 116 ∷ []

-- not
abbrev pub W_not : List ℕ
W_not = 110 ∷ 111 ∷ 116 ∷ []

-- and
abbrev pub W_and : List ℕ
W_and = 97 ∷ 110 ∷ 100 ∷ []

-- <=
abbrev pub W_at_most : List ℕ
W_at_most = 60 ∷ 61 ∷ []

-- <
abbrev pub W_below : List ℕ
W_below = 60 ∷ []

-- >=
abbrev pub W_at_least : List ℕ
W_at_least = 62 ∷ 61 ∷ []

-- >
abbrev pub W_above : List ℕ
W_above = 62 ∷ []

-- -
abbrev pub W_minus : List ℕ
W_minus = 45 ∷ []

-- The operators of atoms, and all operators that terms may have.
abbrev pub compares : List ℕ → Bool
compares w = either (same_bytes w W_at_most) (either (same_bytes w W_below) (either (same_bytes w W_at_least) (same_bytes w W_above)))

abbrev pub operates : List ℕ → Bool
operates w = either (same_bytes w W_not) (either (same_bytes w W_and) (compares w))
