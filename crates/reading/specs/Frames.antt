-- The lines that `fmap` reads: document 01, "The program `fmap` reads lines of hexadecimal, one frame a line". Two digits tell which frame it
-- is; the numbers behind them have two digits (a byte) or eight (a word), with nothing between them (docs/RULES.md has them, too):
--
--   01 kk bbbbbbbb ssssssss   a section: kind (1 code, 2 data, 3 read-only, 4 bss), base, size
--   02 wwwwwwww               a word of the last section
--   02 wwwwwwww oo mm         the same in code, with its outcome (0 to 6) and its mark (0 or 1)
--   03 aaaaaaaa               where the last code word jumps to
--   04 aaaaaaaa ssssssss      the last code word's jump table: address, size
--   05 ll tt aaaaaaaa         the next branch of the last code word: link (0 or 1), to (0 an address, 1 a table, 2 elsewhere), address
--   06 aaaaaaaa ssssssss kk   a function symbol: address, size, whether the size is known (0 or 1)
--   07 aaaaaaaa ssssssss kk   an object symbol
--   08 aaaaaaaa bbbbbbbb      a skip range: first address, first address past it
--   09 aaaaaaaa               the entry point
use Rattle.std.specs.Prelude.{ℕ, ◌&&◌, List, leb, eqb, length, take, drop}
use Rattle.std.specs.Prelude.{Option, None, Some}
use Rattle.rules.specs.Choice.{if}
use Rattle.std.specs.List.{list_all}
use Rattle.reading.specs.Digits.{is_digit, hex_value}
use Rattle.reading.specs.declared.line.Frame.{Frame}
use Rattle.reading.specs.declared.line.Frame.TheVariants.{Section as section, Word as word, CodeWord as code_word, Target as target, Table as table}
use Rattle.reading.specs.declared.line.Frame.TheVariants.{Branch as branch, Function as function, Object as object, Skip as skip, Entry as entry}

-- the number that n digits of a line stand for, from a place on
unfoldable pub number : List ℕ → ℕ → ℕ → ℕ
number l from n = hex_value (take n (drop from l))

-- ---- what stands behind the first two digits

abbrev pub section_line : List ℕ → Option Frame
section_line l =
    if (eqb (length l) 20 && leb 1 (number l 2 2) && leb (number l 2 2) 4)
    (Some (section (number l 2 2) (number l 4 8) (number l 12 8)))
    None

abbrev pub code_word_line : List ℕ → Option Frame
code_word_line l =
    if (eqb (length l) 14 && leb (number l 10 2) 6 && leb (number l 12 2) 1)
    (Some (code_word (number l 2 8) (number l 10 2) (number l 12 2)))
    None

abbrev pub word_line : List ℕ → Option Frame
word_line l = if (eqb (length l) 10) (Some (word (number l 2 8))) (code_word_line l)

abbrev pub target_line : List ℕ → Option Frame
target_line l = if (eqb (length l) 10) (Some (target (number l 2 8))) None

abbrev pub table_line : List ℕ → Option Frame
table_line l = if (eqb (length l) 18) (Some (table (number l 2 8) (number l 10 8))) None

abbrev pub branch_line : List ℕ → Option Frame
branch_line l =
    if (eqb (length l) 14 && leb (number l 2 2) 1 && leb (number l 4 2) 2)
    (Some (branch (number l 2 2) (number l 4 2) (number l 6 8)))
    None

abbrev pub function_line : List ℕ → Option Frame
function_line l =
    if (eqb (length l) 20 && leb (number l 18 2) 1) (Some (function (number l 2 8) (number l 10 8) (number l 18 2))) None

abbrev pub object_line : List ℕ → Option Frame
object_line l =
    if (eqb (length l) 20 && leb (number l 18 2) 1) (Some (object (number l 2 8) (number l 10 8) (number l 18 2))) None

abbrev pub skip_line : List ℕ → Option Frame
skip_line l = if (eqb (length l) 18) (Some (skip (number l 2 8) (number l 10 8))) None

abbrev pub entry_line : List ℕ → Option Frame
entry_line l = if (eqb (length l) 10) (Some (entry (number l 2 8))) None

-- ---- a line

-- by the number that the first two digits stand for
unfoldable pub tagged : ℕ → List ℕ → Option Frame
tagged t l =
    if (eqb t 1) (section_line l)
    (if (eqb t 2) (word_line l)
    (if (eqb t 3) (target_line l)
    (if (eqb t 4) (table_line l)
    (if (eqb t 5) (branch_line l)
    (if (eqb t 6) (function_line l)
    (if (eqb t 7) (object_line l)
    (if (eqb t 8) (skip_line l)
    (if (eqb t 9) (entry_line l) None))))))))

-- the frame that a line without its newline is, if it is one
unfoldable pub read_frame : List ℕ → Option Frame
read_frame l = if (leb 2 (length l) && list_all is_digit l) (tagged (number l 0 2) l) None
