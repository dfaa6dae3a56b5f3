-- The numbers of the faults.
use Rattle.std.specs.Prelude.{ℕ}
use Rattle.faults.specs.declared.Fault.{Fault}
use Rattle.faults.specs.declared.Fault.TheVariants.{Image, Outcome, List, Limit, SecondPrologue, SecondEpilogue, TableInBranches, JumpToItself, EntryOutside, Misaligned, OpenBlock, EpilogueAlone, OpenEnd, EndPastEntry, PendingOutside, Stuck, NotFinalized}

abbrev pub number_of : Fault → ℕ
number_of Image = 1
number_of Outcome = 2
number_of List = 3
number_of Limit = 4
number_of SecondPrologue = 5
number_of SecondEpilogue = 6
number_of TableInBranches = 7
number_of JumpToItself = 8
number_of EntryOutside = 9
number_of Misaligned = 10
number_of OpenBlock = 11
number_of EpilogueAlone = 12
number_of OpenEnd = 13
number_of EndPastEntry = 14
number_of PendingOutside = 15
number_of Stuck = 16
number_of NotFinalized = 17
