-- Lines of each kind, and lines that are none: computed.
use mathlib.Core.Path.{◌≡◌, refl}
use mathlib.Core.List.{[], ◌∷◌, ◌++◌, map}
use Rattle.std.specs.Prelude.{None, Some}
use lib.ListN.{replicate}
use Rattle.rules.specs.Choice.{if}
use Rattle.rules.specs.Text.{bytes}
use Rattle.reading.specs.Frames.{number, tagged, read_frame}
use Rattle.reading.specs.declared.line.Frame.TheVariants.{Section as section, Word as word, CodeWord as code_word, Target as target, Table as table, Branch as branch, Function as function, Object as object, Skip as skip, Entry as entry}

-- one of each kind, with digits of either case
frames_read :
    map read_frame
    (bytes "01010000100000000008" ∷
    bytes "010400aBcDeF12345678" ∷
    bytes "024E800020" ∷
    bytes "024e8000200301" ∷
    bytes "030000100C" ∷
    bytes "04000010000000000C" ∷
    bytes "050102FFFFFFFF" ∷
    bytes "06000010000000000801" ∷
    bytes "07000020000000001000" ∷
    bytes "080000100000001004" ∷
    bytes "0900001000" ∷ [])
    ≡ Some (section 1 0x1000 8) ∷
    Some (section 4 0xABCDEF 0x12345678) ∷
    Some (word 0x4E800020) ∷
    Some (code_word 0x4E800020 3 1) ∷
    Some (target 0x100C) ∷
    Some (table 0x1000 12) ∷
    Some (branch 1 2 0xFFFFFFFF) ∷
    Some (function 0x1000 8 1) ∷
    Some (object 0x2000 0x10 0) ∷
    Some (skip 0x1000 0x1004) ∷
    Some (entry 0x1000) ∷ []
unfolding if number tagged read_frame
frames_read = refl

-- no frame: too few digits or too many, spaces, a carriage return, a byte that is no digit, another number at the beginning
no_frames :
    map read_frame
    (bytes "" ∷
    bytes "0" ∷
    bytes "01" ∷
    bytes "0101000010000000000" ∷
    bytes "010100001000000000080" ∷
    bytes "0101000010000000000800" ∷
    bytes "024E80002003" ∷
    bytes "01 01 00001000 00000008" ∷
    bytes " 0900001000" ∷
    bytes "0900001000 " ∷
    (bytes "0900001000" ++ (13 ∷ [])) ∷
    bytes "0900001G00" ∷
    bytes "0900001:00" ∷
    bytes "0900001`00" ∷
    bytes "0a00001000" ∷
    bytes "0000001000" ∷ [])
    ≡ replicate 16 None
unfolding if number tagged read_frame
no_frames = refl

-- no frame: a byte outside its range
no_such_numbers :
    map read_frame
    (bytes "01000000100000000008" ∷
    bytes "01050000100000000008" ∷
    bytes "024E8000200700" ∷
    bytes "024E8000200302" ∷
    bytes "05020000001000" ∷
    bytes "05000300001000" ∷
    bytes "06000010000000000802" ∷
    bytes "07000010000000000802" ∷ [])
    ≡ replicate 8 None
unfolding if number tagged read_frame
no_such_numbers = refl
