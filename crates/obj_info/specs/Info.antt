-- A checked image, and answers by Option.
use Rattle.std.specs.Prelude.{ℕ, List, [], Option, Some, None, eqb, ltb}
use Rattle.rules.specs.Choice.{if}
use Rattle.rules.specs.Address.{address_of}
use Rattle.rules.specs.Image.{Image, Symbol, code_section, contains, in_code, index, no_word}
use Rattle.rules.specs.Given.{symbol_of}
use Rattle.obj_image.specs.Lent.{Lent, lent, symbol_row, image}
use Rattle.obj_info.specs.declared.info.ObjInfo.{ObjInfo}
use Rattle.obj_info.specs.declared.info.TableInfo.{TableInfo}

-- its lists
abbrev pub lent_of : ObjInfo → Lent
lent_of i = lent i.sections.now i.bytes.now i.outcomes.now i.functions.now i.objects.now i.skips.now i.entry.now

-- the image that they stand for
abbrev pub image_of : ObjInfo → Image
image_of i = image (lent_of i)

-- of these lists, those that jump tables are read by
abbrev pub tables_of : Lent → Lent
tables_of l = lent l.sections l.bytes [] [] l.objects [] []

-- its lists, and the image that they stand for
abbrev pub table_lent : TableInfo → Lent
table_lent i = lent i.sections.now i.bytes.now [] [] i.objects.now [] []

abbrev pub table_image : TableInfo → Image
table_image i = image (table_lent i)

-- a number that is 0 where there is none
abbrev pub some_nonzero : ℕ → Option ℕ
some_nonzero n = if (eqb n 0) None (Some n)

-- a word; no_word is none
abbrev pub some_word : ℕ → Option ℕ
some_word n = if (ltb n no_word) (Some n) None

-- which of the code words lies at an address, if one does
abbrev pub index_in_code : Image → ℕ → Option ℕ
index_in_code im k = if (in_code im k) (Some (index im k)) None

-- the same by the 32-bit address alone
abbrev pub index_within : Image → ℕ → Option ℕ
index_within im k = if (contains (code_section im) (address_of k)) (Some (index im k)) None

-- the symbol of three numbers
abbrev pub symbol_in : List ℕ → Symbol
symbol_in c = symbol_of (symbol_row c)
