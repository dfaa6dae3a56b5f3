-- What stays as it is during a walk, as the rules have it.
use Rattle.std.specs.Prelude.{◌≡◌, List, map, unwrap_or}
use Rattle.rules.specs.Known.{Entry}
use Rattle.rules.specs.Step as rules
use Rattle.tables.specs.Rows.{row}
use Rattle.tables.specs.declared.maps.Row.{Row}
use Rattle.obj_info.specs.Info.{image_of}
use Rattle.walks.specs.declared.around.Around.{Around}

-- the known functions are these entries
abbrev pub Knows : List Row → List Entry → Type 0
Knows known es = known ≡ map (λ (x : Entry). row x.entry x.end) es

abbrev pub around_of : Around → List Entry → rules.Around
around_of a es = record { image = image_of a.obj; start = a.start; end = unwrap_or a.end 0; entries = es }
