-- The lines of a map, as document 01 prints them ("One run, whole"; docs/RULES.md): each is a list of bytes.
use Rattle.std.specs.Prelude.{ℕ, zero, suc, ◌+◌, ◌/◌, ◌%◌, Bool, List, [], ◌∷◌, ◌++◌, ltb, eqb}
use Rattle.std.proofs.Math.Option.{Option, none, some}
use Rattle.rules.specs.Choice.{if, Answer, ok, fault}
use Rattle.rules.specs.Address.{address_of}
use Rattle.rules.specs.Text.{bytes}
use Rattle.rules.specs.Blocks.{Block}
use Rattle.rules.specs.Slices.{Slices, Branches, Table}
use Rattle.rules.specs.Known.{Entry, is_function}

-- a line without its newline
abbrev pub Line : Type 0
Line = List ℕ

-- a hexadecimal digit, in capitals
abbrev pub digit : ℕ → ℕ
digit d = if (ltb d 10) (48 + d) (55 + d)

-- the lowest n hexadecimal digits of a number
abbrev pub hex : ℕ → ℕ → Line
hex zero x = []
hex (suc n) x = hex n (x / 16) ++ (digit (x % 16) ∷ [])

-- "Addresses and sizes are eight hexadecimal digits"
abbrev pub address : ℕ → Line
address k = hex 8 (address_of k)

-- "- is none"
abbrev pub address_or_dash : ℕ → Line
address_or_dash k = if (eqb k 0) (bytes "-") (address k)

-- 1 or 0
abbrev pub flag : Bool → ℕ
flag b = if b 49 48

-- R: number, decimal, two digits
unfoldable pub line_R : ℕ → Line
line_R n = bytes "R " ++ ((48 + n / 10) ∷ (48 + n % 10) ∷ [])

-- F: entry, end, prologue, epilogue, digits for conditional `blr`, `rfi`, load of r1
unfoldable pub line_F : Entry → Slices → Line
line_F x s =
    bytes "F " ++ address x.entry ++ bytes " " ++ address x.end ++ bytes " " ++ address_or_dash s.prologue ++
    bytes " " ++ address_or_dash s.epilogue ++ bytes " " ++ (flag s.conditional_blr ∷ flag s.rfi ∷ flag s.r1_load ∷ [])

-- B: start, end
abbrev pub lines_B : List Block → List Line
lines_B [] = []
lines_B (b ∷ l) = (bytes "B " ++ address b.start ++ bytes " " ++ address_or_dash b.end) ∷ lines_B l

-- C: from, to
abbrev pub lines_from : ℕ → List ℕ → List Line
lines_from k [] = []
lines_from k (t ∷ l) = (bytes "C " ++ address k ++ bytes " " ++ address t) ∷ lines_from k l

-- "C by from, its targets in the order of the Rust's list"
abbrev pub lines_C : List Branches → List Line
lines_C [] = []
lines_C (w ∷ l) = lines_from w.from w.targets ++ lines_C l

-- X: reference
abbrev pub lines_X : List ℕ → List Line
lines_X [] = []
lines_X (k ∷ l) = (bytes "X " ++ address k) ∷ lines_X l

-- J: table, size
abbrev pub lines_J : List Table → List Line
lines_J [] = []
lines_J (t ∷ l) = (bytes "J " ++ address t.address ++ bytes " " ++ hex 8 t.size) ∷ lines_J l

-- "Each F is followed by its own B, C, X and J lines"
abbrev pub lines_function : Entry → Option Slices → List Line
lines_function x none = []
lines_function x (some s) = line_F x s ∷ lines_B s.blocks ++ lines_C s.branches ++ lines_X s.function_references ++ lines_J s.jump_table_references

-- "N is an entry set aside"
unfoldable pub lines_entry : Entry → List Line
lines_entry x = if (is_function x) (lines_function x x.slices) ((bytes "N " ++ address x.entry) ∷ [])

-- "these groups and the N lines stand in order of entry"
abbrev pub lines_map : List Entry → List Line
lines_map [] = []
lines_map (x ∷ es) = lines_entry x ++ lines_map es

-- "A fault prints R alone"
unfoldable pub lines : Answer (List Entry) → List Line
lines (ok es) = line_R 0 ∷ lines_map es
lines (fault n) = line_R n ∷ []

-- each line and a newline
abbrev pub text : List Line → List ℕ
text [] = []
text (l ∷ ls) = l ++ bytes "\n" ++ text ls
