-- Worked examples: images handed in, and the lines that the Rust gives for them, computed by the definitions.
-- Written by tests/definitions/theorems.py from examples.in and examples.out beside it.
use mathlib.Core.Path.{◌≡◌, refl}
use mathlib.Core.List.{[], ◌∷◌}
use Rattle.rules.specs.Text.{bytes}
use Rattle.rules.specs.Given.{Given}
use Rattle.rules.proofs.Images.{bytes_of, section, does, jumps, uses_table, lists, branch, symbol, range}
use Rattle.rules.proofs.Whole.{whole, enough}

unfoldable pub sample : Given
sample =
    record {
      sections = section 1 0x1000 8 8 ∷ [];
      bytes = bytes_of (0x4E800020 ∷ 0x4E800020 ∷ []);
      outcomes = does 3 0 ∷ does 3 0 ∷ [];
      functions = [];
      objects = [];
      skips = [];
      entries = [];
    }

pub sample_lines : whole sample enough ≡
    bytes "R 00" ∷
    bytes "F 00001000 00001004 - - 000" ∷
    bytes "B 00001000 00001004" ∷
    bytes "F 00001004 00001008 - - 000" ∷
    bytes "B 00001004 00001008" ∷
    []
unfolding whole sample
sample_lines = refl

unfoldable pub short_entries : Given
short_entries =
    record {
      sections = section 1 0x1000 8 8 ∷ [];
      bytes = bytes_of (0x4E800020 ∷ 0x4E800020 ∷ []);
      outcomes = does 3 0 ∷ does 3 0 ∷ [];
      functions = [];
      objects = [];
      skips = [];
      entries = [];
    }

pub short_entries_lines : whole short_entries (record { entries = 1; numbers = 1000 }) ≡
    bytes "R 04" ∷
    []
unfolding whole short_entries
short_entries_lines = refl

unfoldable pub short_lists : Given
short_lists =
    record {
      sections = section 1 0x1000 8 8 ∷ [];
      bytes = bytes_of (0x4E800020 ∷ 0x4E800020 ∷ []);
      outcomes = does 3 0 ∷ does 3 0 ∷ [];
      functions = [];
      objects = [];
      skips = [];
      entries = [];
    }

pub short_lists_lines : whole short_lists (record { entries = 2; numbers = 3 }) ≡
    bytes "R 04" ∷
    []
unfolding whole short_lists
short_lists_lines = refl

unfoldable pub exact_room : Given
exact_room =
    record {
      sections = section 1 0x1000 8 8 ∷ [];
      bytes = bytes_of (0x4E800020 ∷ 0x4E800020 ∷ []);
      outcomes = does 3 0 ∷ does 3 0 ∷ [];
      functions = [];
      objects = [];
      skips = [];
      entries = [];
    }

pub exact_room_lines : whole exact_room (record { entries = 2; numbers = 4 }) ≡
    bytes "R 00" ∷
    bytes "F 00001000 00001004 - - 000" ∷
    bytes "B 00001000 00001004" ∷
    bytes "F 00001004 00001008 - - 000" ∷
    bytes "B 00001004 00001008" ∷
    []
unfolding whole exact_room
exact_room_lines = refl

unfoldable pub second_prologue : Given
second_prologue =
    record {
      sections = section 1 0x100 0x14 0x14 ∷ [];
      bytes = bytes_of (0x9421FFF0 ∷ 0x7C0802A6 ∷ 0x48000004 ∷ 0x7C21196E ∷ 0x7C0802A6 ∷ []);
      outcomes = does 0 0 ∷ does 0 0 ∷ jumps 0 0x10c ∷ does 0 0 ∷ does 0 0 ∷ [];
      functions = [];
      objects = [];
      skips = [];
      entries = [];
    }

pub second_prologue_lines : whole second_prologue enough ≡
    bytes "R 05" ∷
    []
unfolding whole second_prologue
second_prologue_lines = refl

unfoldable pub other_epilogue : Given
other_epilogue =
    record {
      sections = section 1 0x1000 0xc 0xc ∷ [];
      bytes = bytes_of (0x7C0803A6 ∷ 0x7C2B0B78 ∷ 0x7C0803A6 ∷ []);
      outcomes = does 1 0 ∷ jumps 0 0x1000 ∷ does 0 0 ∷ [];
      functions = [];
      objects = [];
      skips = [];
      entries = [];
    }

pub other_epilogue_lines : whole other_epilogue enough ≡
    bytes "R 06" ∷
    []
unfolding whole other_epilogue
other_epilogue_lines = refl

unfoldable pub branch_to_table : Given
branch_to_table =
    record {
      sections = section 1 0x1000 4 4 ∷ [];
      bytes = bytes_of (0x40820000 ∷ []);
      outcomes = lists 0 (branch 0 1 0x1000 ∷ []) ∷ [];
      functions = [];
      objects = [];
      skips = [];
      entries = [];
    }

pub branch_to_table_lines : whole branch_to_table enough ≡
    bytes "R 07" ∷
    []
unfolding whole branch_to_table
branch_to_table_lines = refl

unfoldable pub jump_to_itself : Given
jump_to_itself =
    record {
      sections = section 1 0x1000 0xc 0xc ∷ section 2 0x2000 4 4 ∷ [];
      bytes = bytes_of (0x4E800020 ∷ 0x48000004 ∷ 0x40820000 ∷ 0x00000000 ∷ []);
      outcomes = does 3 0 ∷ jumps 0 0x1008 ∷ lists 0 (branch 0 0 0x1004 ∷ branch 0 0 0x2000 ∷ []) ∷ [];
      functions = symbol 0x1008 0 0 ∷ [];
      objects = [];
      skips = [];
      entries = [];
    }

pub jump_to_itself_lines : whole jump_to_itself enough ≡
    bytes "R 08" ∷
    []
unfolding whole jump_to_itself
jump_to_itself_lines = refl

unfoldable pub entry_nowhere : Given
entry_nowhere =
    record {
      sections = section 1 0x1000 4 4 ∷ section 2 0x2000 4 4 ∷ [];
      bytes = bytes_of (0x4E800420 ∷ 0x00000004 ∷ []);
      outcomes = uses_table 0 0x2000 4 ∷ [];
      functions = [];
      objects = [];
      skips = [];
      entries = [];
    }

pub entry_nowhere_lines : whole entry_nowhere enough ≡
    bytes "R 09" ∷
    []
unfolding whole entry_nowhere
entry_nowhere_lines = refl

unfoldable pub entry_misaligned : Given
entry_misaligned =
    record {
      sections = section 1 0x1000 4 4 ∷ section 2 0x2000 8 8 ∷ [];
      bytes = bytes_of (0x4E800420 ∷ 0x00001002 ∷ 0x00000004 ∷ []);
      outcomes = uses_table 0 0x2000 8 ∷ [];
      functions = [];
      objects = [];
      skips = [];
      entries = [];
    }

pub entry_misaligned_lines : whole entry_misaligned enough ≡
    bytes "R 10" ∷
    []
unfolding whole entry_misaligned
entry_misaligned_lines = refl

unfoldable pub length_misaligned : Given
length_misaligned =
    record {
      sections = section 1 0x1000 4 4 ∷ section 2 0x2000 8 8 ∷ [];
      bytes = bytes_of (0x4E800420 ∷ 0x00001000 ∷ 0x00001000 ∷ []);
      outcomes = uses_table 0 0x2000 6 ∷ [];
      functions = [];
      objects = [];
      skips = [];
      entries = [];
    }

pub length_misaligned_lines : whole length_misaligned enough ≡
    bytes "R 10" ∷
    []
unfolding whole length_misaligned
length_misaligned_lines = refl

unfoldable pub open_at_the_end : Given
open_at_the_end =
    record {
      sections = section 1 0x1000 4 4 ∷ section 2 0x2000 4 4 ∷ [];
      bytes = bytes_of (0x40820000 ∷ 0x00000000 ∷ []);
      outcomes = lists 0 (branch 0 0 0x2000 ∷ []) ∷ [];
      functions = [];
      objects = [];
      skips = [];
      entries = [];
    }

pub open_at_the_end_lines : whole open_at_the_end enough ≡
    bytes "R 11" ∷
    []
unfolding whole open_at_the_end
open_at_the_end_lines = refl

unfoldable pub epilogue_alone : Given
epilogue_alone =
    record {
      sections = section 1 0x1000 8 8 ∷ [];
      bytes = bytes_of (0x7C0803A6 ∷ 0x38210010 ∷ []);
      outcomes = does 0 0 ∷ jumps 0 0x1004 ∷ [];
      functions = [];
      objects = [];
      skips = [];
      entries = [];
    }

pub epilogue_alone_lines : whole epilogue_alone enough ≡
    bytes "R 12" ∷
    []
unfolding whole epilogue_alone
epilogue_alone_lines = refl

unfoldable pub last_open : Given
last_open =
    record {
      sections = section 1 0x80003100 0x10 0x10 ∷ [];
      bytes = bytes_of (0x7C0802A6 ∷ 0x90010014 ∷ 0x38630001 ∷ 0x4E800020 ∷ []);
      outcomes = does 0 0 ∷ does 0 0 ∷ jumps 0 0x8000310c ∷ does 3 0 ∷ [];
      functions = [];
      objects = [];
      skips = [];
      entries = 0x8000310c ∷ [];
    }

pub last_open_lines : whole last_open enough ≡
    bytes "R 13" ∷
    []
unfolding whole last_open
last_open_lines = refl

unfoldable pub end_above_next : Given
end_above_next =
    record {
      sections = section 1 0x80003100 8 8 ∷ [];
      bytes = bytes_of (0x38630001 ∷ 0x4E800020 ∷ []);
      outcomes = does 0 0 ∷ does 3 0 ∷ [];
      functions = [];
      objects = [];
      skips = [];
      entries = 0x80003104 ∷ [];
    }

pub end_above_next_lines : whole end_above_next enough ≡
    bytes "R 14" ∷
    []
unfolding whole end_above_next
end_above_next_lines = refl

unfoldable pub pending_outside : Given
pending_outside =
    record {
      sections = section 1 0x1000 8 8 ∷ [];
      bytes = bytes_of (0x9421FFF0 ∷ 0x7C0802A6 ∷ []);
      outcomes = does 0 0 ∷ does 2 0 ∷ [];
      functions = [];
      objects = [];
      skips = [];
      entries = [];
    }

pub pending_outside_lines : whole pending_outside enough ≡
    bytes "R 15" ∷
    []
unfolding whole pending_outside
pending_outside_lines = refl

unfoldable pub past_the_end : Given
past_the_end =
    record {
      sections = section 1 0x1000 4 4 ∷ [];
      bytes = bytes_of (0x38630001 ∷ []);
      outcomes = does 0 0 ∷ [];
      functions = [];
      objects = [];
      skips = [];
      entries = [];
    }

pub past_the_end_lines : whole past_the_end enough ≡
    bytes "R 16" ∷
    []
unfolding whole past_the_end
past_the_end_lines = refl

unfoldable pub pass_marks_nothing : Given
pass_marks_nothing =
    record {
      sections = section 1 0x4000 0x18 0x18 ∷ [];
      bytes = bytes_of (0x38630001 ∷ 0x38630001 ∷ 0x38630001 ∷ 0x4E800020 ∷ 0x38630001 ∷ 0x4E800020 ∷ []);
      outcomes = lists 0 (branch 0 0 0x4008 ∷ branch 0 0 0x4014 ∷ []) ∷ does 1 0 ∷ does 0 0 ∷ does 3 0 ∷ jumps 0 0x4008 ∷ does 3 0 ∷ [];
      functions = [];
      objects = [];
      skips = [];
      entries = [];
    }

pub pass_marks_nothing_lines : whole pass_marks_nothing enough ≡
    bytes "R 16" ∷
    []
unfolding whole pass_marks_nothing
pass_marks_nothing_lines = refl

unfoldable pub remains : Given
remains =
    record {
      sections = section 1 0x4000 0xc 0xc ∷ section 3 0x410c 4 4 ∷ [];
      bytes = bytes_of (0x38630001 ∷ 0x38630001 ∷ 0x4E800020 ∷ 0x00004000 ∷ []);
      outcomes = jumps 0 0x4008 ∷ uses_table 0 0x410c 8 ∷ does 3 0 ∷ [];
      functions = [];
      objects = [];
      skips = [];
      entries = [];
    }

pub remains_lines : whole remains enough ≡
    bytes "R 17" ∷
    []
unfolding whole remains
remains_lines = refl

unfoldable pub finalized_again : Given
finalized_again =
    record {
      sections = section 1 0x10a0 8 8 ∷ [];
      bytes = bytes_of (0x38630001 ∷ 0x38630001 ∷ []);
      outcomes = does 0 0 ∷ lists 0 (branch 1 0 0x10a4 ∷ []) ∷ [];
      functions = [];
      objects = [];
      skips = [];
      entries = 0x10a0 ∷ [];
    }

pub finalized_again_lines : whole finalized_again enough ≡
    bytes "R 17" ∷
    []
unfolding whole finalized_again
finalized_again_lines = refl

unfoldable pub trial_ends_the_run : Given
trial_ends_the_run =
    record {
      sections = section 1 0x1000 0x14 0x14 ∷ section 2 0x2000 4 4 ∷ [];
      bytes = bytes_of (0x48000008 ∷ 0x4E800020 ∷ 0x4E800420 ∷ 0x38630001 ∷ 0x4E800020 ∷ 0x00000000 ∷ []);
      outcomes = jumps 0 0x1008 ∷ does 3 0 ∷ uses_table 0 0x2000 3 ∷ does 0 0 ∷ does 3 0 ∷ [];
      functions = symbol 0x100c 0 0 ∷ [];
      objects = [];
      skips = [];
      entries = 0x1010 ∷ [];
    }

pub trial_ends_the_run_lines : whole trial_ends_the_run enough ≡
    bytes "R 10" ∷
    []
unfolding whole trial_ends_the_run
trial_ends_the_run_lines = refl

unfoldable pub start_is_the_lowest_block : Given
start_is_the_lowest_block =
    record {
      sections = section 1 0x1000 0x18 0x18 ∷ [];
      bytes = bytes_of (0x4E800020 ∷ 0x4E800020 ∷ 0x4182FFFC ∷ 0x48000008 ∷ 0x4E800020 ∷ 0x4E800020 ∷ []);
      outcomes = does 3 0 ∷ does 3 0 ∷ lists 0 (branch 0 0 0x1004 ∷ branch 0 0 0x100c ∷ []) ∷ jumps 0 0x1014 ∷ does 3 0 ∷ does 3 0 ∷ [];
      functions = symbol 0x1008 0 0 ∷ [];
      objects = [];
      skips = [];
      entries = [];
    }

pub start_is_the_lowest_block_lines : whole start_is_the_lowest_block enough ≡
    bytes "R 00" ∷
    bytes "F 00001000 00001004 - - 000" ∷
    bytes "B 00001000 00001004" ∷
    bytes "F 00001004 00001008 - - 000" ∷
    bytes "B 00001004 00001008" ∷
    bytes "F 00001008 00001014 - - 100" ∷
    bytes "B 00001004 00001008" ∷
    bytes "B 00001008 0000100C" ∷
    bytes "B 0000100C 00001010" ∷
    bytes "B 00001010 00001014" ∷
    bytes "C 00001008 00001004" ∷
    bytes "C 00001008 0000100C" ∷
    bytes "C 0000100C 00001014" ∷
    bytes "X 00001014" ∷
    bytes "F 00001014 00001018 - - 000" ∷
    bytes "B 00001014 00001018" ∷
    []
unfolding whole start_is_the_lowest_block
start_is_the_lowest_block_lines = refl

unfoldable pub prologue_up_to_it : Given
prologue_up_to_it =
    record {
      sections = section 1 0x1000 0x14 0x14 ∷ [];
      bytes = bytes_of (0x48000008 ∷ 0x38630001 ∷ 0x9421FFF0 ∷ 0x7C0802A6 ∷ 0x4BFFFFF4 ∷ []);
      outcomes = jumps 0 0x1008 ∷ does 3 0 ∷ does 0 0 ∷ does 0 0 ∷ jumps 0 0x1004 ∷ [];
      functions = [];
      objects = [];
      skips = [];
      entries = [];
    }

pub prologue_up_to_it_lines : whole prologue_up_to_it enough ≡
    bytes "R 00" ∷
    bytes "F 00001000 00001014 00001008 - 000" ∷
    bytes "B 00001000 00001004" ∷
    bytes "B 00001004 00001008" ∷
    bytes "B 00001008 00001014" ∷
    bytes "C 00001000 00001008" ∷
    bytes "C 00001010 00001004" ∷
    []
unfolding whole prologue_up_to_it
prologue_up_to_it_lines = refl

unfoldable pub tail_call_is : Given
tail_call_is =
    record {
      sections = section 1 0x4000 0xc 0xc ∷ [];
      bytes = bytes_of (0x48000008 ∷ 0x00000000 ∷ 0x4E800020 ∷ []);
      outcomes = jumps 0 0x4008 ∷ does 1 0 ∷ does 3 0 ∷ [];
      functions = [];
      objects = [];
      skips = [];
      entries = [];
    }

pub tail_call_is_lines : whole tail_call_is enough ≡
    bytes "R 00" ∷
    bytes "F 00004000 00004004 - - 000" ∷
    bytes "B 00004000 00004004" ∷
    bytes "C 00004000 00004008" ∷
    bytes "X 00004008" ∷
    bytes "F 00004008 0000400C - - 000" ∷
    bytes "B 00004008 0000400C" ∷
    []
unfolding whole tail_call_is
tail_call_is_lines = refl

unfoldable pub tail_call_is_not : Given
tail_call_is_not =
    record {
      sections = section 1 0x80003000 4 4 ∷ section 2 0x80003004 4 4 ∷ [];
      bytes = bytes_of (0x4E800420 ∷ 0x80003000 ∷ []);
      outcomes = uses_table 0 0x80003004 0 ∷ [];
      functions = [];
      objects = [];
      skips = [];
      entries = 0x80003000 ∷ [];
    }

pub tail_call_is_not_lines : whole tail_call_is_not enough ≡
    bytes "R 00" ∷
    bytes "F 80003000 80003004 - - 000" ∷
    bytes "B 80003000 80003004" ∷
    []
unfolding whole tail_call_is_not
tail_call_is_not_lines = refl

unfoldable pub tail_call_possible : Given
tail_call_possible =
    record {
      sections = section 1 0x4000 8 8 ∷ [];
      bytes = bytes_of (0x48000004 ∷ 0x4E800020 ∷ []);
      outcomes = jumps 0 0x4004 ∷ does 3 0 ∷ [];
      functions = [];
      objects = [];
      skips = [];
      entries = [];
    }

pub tail_call_possible_lines : whole tail_call_possible enough ≡
    bytes "R 00" ∷
    bytes "F 00004000 00004008 - - 000" ∷
    bytes "B 00004000 00004004" ∷
    bytes "B 00004004 00004008" ∷
    bytes "C 00004000 00004004" ∷
    []
unfolding whole tail_call_possible
tail_call_possible_lines = refl

unfoldable pub table_with_size : Given
table_with_size =
    record {
      sections = section 1 0x4000 8 8 ∷ section 2 0x4008 8 8 ∷ [];
      bytes = bytes_of (0x80230000 ∷ 0x4E800420 ∷ 0x00004004 ∷ 0x00000000 ∷ []);
      outcomes = does 0 0 ∷ uses_table 0 0x4008 4 ∷ [];
      functions = [];
      objects = [];
      skips = [];
      entries = [];
    }

pub table_with_size_lines : whole table_with_size enough ≡
    bytes "R 00" ∷
    bytes "F 00004000 00004008 - - 001" ∷
    bytes "B 00004000 00004004" ∷
    bytes "B 00004004 00004008" ∷
    bytes "C 00004004 00004004" ∷
    bytes "J 00004008 00000004" ∷
    []
unfolding whole table_with_size
table_with_size_lines = refl

unfoldable pub table_without_size : Given
table_without_size =
    record {
      sections = section 1 0x80003020 8 8 ∷ section 4 0x8000302c 0xa0 0 ∷ section 2 0x80003000 0x10 0x10 ∷ [];
      bytes = bytes_of (0x2C030000 ∷ 0x7C0802A6 ∷ 0x80003024 ∷ 0x80003020 ∷ 0x80003024 ∷ 0x00000000 ∷ []);
      outcomes = does 0 0 ∷ uses_table 0 0x80003000 0 ∷ [];
      functions = [];
      objects = [];
      skips = [];
      entries = [];
    }

pub table_without_size_lines : whole table_without_size enough ≡
    bytes "R 00" ∷
    bytes "F 80003020 80003028 - - 000" ∷
    bytes "B 80003020 80003024" ∷
    bytes "B 80003024 80003028" ∷
    bytes "C 80003024 80003020" ∷
    bytes "C 80003024 80003024" ∷
    bytes "J 80003000 0000000C" ∷
    []
unfolding whole table_without_size
table_without_size_lines = refl

unfoldable pub skipped_and_set_aside : Given
skipped_and_set_aside =
    record {
      sections = section 1 0x80003020 8 8 ∷ section 4 0x80003000 0x10 0 ∷ [];
      bytes = bytes_of (0x38630001 ∷ 0x4E800020 ∷ []);
      outcomes = does 0 0 ∷ does 3 0 ∷ [];
      functions = symbol 0x80003024 4 1 ∷ [];
      objects = [];
      skips = range 0x80003024 0x80003028 ∷ [];
      entries = [];
    }

pub skipped_and_set_aside_lines : whole skipped_and_set_aside enough ≡
    bytes "R 00" ∷
    bytes "N 80003020" ∷
    bytes "F 80003024 80003028 - - 000" ∷
    bytes "B 80003024 80003028" ∷
    []
unfolding whole skipped_and_set_aside
skipped_and_set_aside_lines = refl

unfoldable pub open_block : Given
open_block =
    record {
      sections = section 1 0x4000 0x40 0x40 ∷ [];
      bytes = bytes_of (0x7C0802A6 ∷ 0xE81F5DB3 ∷ 0x9421FFF0 ∷ 0x38210010 ∷ 0x7C0803A6 ∷ 0x48000004 ∷ 0x148B1A31 ∷ 0x80830008 ∷ 0x4BFFFFE0 ∷ 0x7C0802A6 ∷ 0x90010014 ∷ 0x9421FFF0 ∷ 0x7C0803A6 ∷ 0x2C030000 ∷ 0x38210010 ∷ 0x4BFFFFC8 ∷ []);
      outcomes = does 0 0 ∷ does 0 0 ∷ does 0 0 ∷ does 0 0 ∷ does 0 0 ∷ jumps 0 0x4018 ∷ does 0 0 ∷ does 0 0 ∷ jumps 0 0x4000 ∷ does 0 0 ∷ does 0 0 ∷ does 0 0 ∷ does 0 0 ∷ does 0 0 ∷ does 0 0 ∷ jumps 0 0x4004 ∷ [];
      functions = symbol 0x4014 4 0 ∷ [];
      objects = [];
      skips = [];
      entries = [];
    }

pub open_block_lines : whole open_block enough ≡
    bytes "R 00" ∷
    bytes "N 00004000" ∷
    bytes "F 00004014 00004024 - - 000" ∷
    bytes "B 00004014 00004018" ∷
    bytes "B 00004018 00004024" ∷
    bytes "C 00004014 00004018" ∷
    bytes "C 00004020 00004000" ∷
    bytes "X 00004000" ∷
    bytes "F 00004024 00004040 00004024 00004030 000" ∷
    bytes "B 00004004 -" ∷
    bytes "B 00004024 00004040" ∷
    bytes "C 0000403C 00004004" ∷
    []
unfolding whole open_block
open_block_lines = refl
