-- A section by value.
use Rattle.rules.specs.Bytes.{words_in}
use Rattle.rules.specs.Image as images
use Rattle.obj_info.specs.declared.sections.Section.{Section}
use Rattle.obj_info.specs.declared.sections.SectionKind.{SectionKind}
use Rattle.obj_info.specs.declared.sections.SectionKind.TheVariants.{Code, Data, ReadOnlyData, Bss}

abbrev pub kind_for : SectionKind → images.Kind
kind_for Code = images.code
kind_for Data = images.written
kind_for ReadOnlyData = images.read_only
kind_for Bss = images.bss

-- with its bytes as words
abbrev pub section_for : Section → images.Section
section_for s = record { kind = kind_for s.kind; base = s.base; size = s.size; words = words_in s.bytes.now }
