-- A whole run with every definition unfolded, so that it computes. Written by tests/definitions/unfold.py.
use mathlib.Core.List.{List}
use Rattle.rules.specs.Lines.{Line}
use Rattle.rules.specs.Choice
use Rattle.rules.specs.Loop
use Rattle.rules.specs.Bytes
use Rattle.rules.specs.Words
use Rattle.rules.specs.Registers
use Rattle.rules.specs.Sequences
use Rattle.rules.specs.Branches
use Rattle.rules.specs.Blocks
use Rattle.rules.specs.Image
use Rattle.rules.specs.Given
use Rattle.rules.specs.Slices
use Rattle.rules.specs.Known
use Rattle.rules.specs.JumpTable
use Rattle.rules.specs.Step
use Rattle.rules.specs.Walk
use Rattle.rules.specs.Analyze
use Rattle.rules.specs.TailCall
use Rattle.rules.specs.Finalize
use Rattle.rules.specs.Settle
use Rattle.rules.specs.Check
use Rattle.rules.specs.Map
use Rattle.rules.specs.Lines
use Rattle.rules.specs.Run

unfoldable pub whole : Given.Given → Map.Capacity → List Line
unfolding Choice.if Choice.◌>>=◌ Choice.limited Loop.run Loop.loop Bytes.words_at Words.primary Words.extended Words.field_d Words.field_a Words.field_b Words.field_bo Words.field_spr Words.is_blr Words.is_nop Words.is_branch Words.is_conditional_blr Words.is_rfi Words.is_mflr Words.is_mtlr Words.is_stwu Words.is_stw Words.is_addi Words.is_or Words.is_lwz Words.is_function_terminator Registers.primary_table Registers.extended_table Registers.arithmetic_table Registers.extended_rows Registers.fields_named Registers.registers_named Registers.names_r0_or_r1 Sequences.is_end_of_seq Sequences.prologue_pairs Sequences.epilogue_pairs Sequences.check_prologue_sequence Sequences.check_epilogue_sequence Branches.branch_words Branches.branch_distance Branches.is_absolute Branches.branch_dest Blocks.reaches Blocks.cut Blocks.mark Blocks.is_new Blocks.first_start Blocks.last_start Blocks.last_end Blocks.mark_in Image.code_number Image.code_section Image.section_at Image.locate Image.code_words Image.index Image.in_code Image.word Image.words_from Image.words_between Image.told_at Image.in_skipped_range Given.image_of Slices.set_block Slices.add_block_start Slices.set_branches Slices.add_function_reference Slices.set_jump_table_reference Slices.add_possible_block Slices.discard_possible_block Known.covering Known.any_between Known.end_of_entry JumpTable.take_entry JumpTable.sized_table JumpTable.unsized_table JumpTable.table_of_size JumpTable.jump_table_entries Step.on_slices Step.push Step.seen Step.second_prologue Step.meet_prologue Step.check_prologue Step.meet_epilogue Step.check_epilogue Step.check_sequences Step.note_word Step.mark_and_push Step.end_block Step.walk_on Step.known_function Step.is_known_function Step.is_met Step.do_go_on Step.do_illegal Step.do_unknown Step.jumps_inside Step.go_to Step.jump_inside Step.jump_outside Step.do_jump_elsewhere Step.do_jump Step.known_end Step.table_inside Step.is_own_table Step.do_own_table Step.do_table Step.symbol_over Step.linked_function Step.refers_to Step.do_branch Step.do_branches Step.do_outcome Step.do_word Step.instruction_callback Walk.with_one Walk.visit Walk.live Walk.take_pending Walk.enter Walk.step Walk.left Walk.run_walk Analyze.walk_from Analyze.checked_pass Analyze.run_pass Analyze.passes_left Analyze.is_disconnected Analyze.pass_behind Analyze.connect_step Analyze.connect Analyze.at_nop Analyze.skip_nops Analyze.next_part Analyze.is_short Analyze.reach_step Analyze.reach_end Analyze.analyze_ends Analyze.analyze_walk Analyze.analyze TailCall.judge_others TailCall.judge_trial TailCall.judge TailCall.trial TailCall.is_referred TailCall.prologue_before TailCall.check_between TailCall.is_separate TailCall.is_own TailCall.check_tail_call Finalize.last_word Finalize.word_after Finalize.ends_in_call Finalize.is_conditional Finalize.has_last Finalize.add_last Finalize.finalize_end Finalize.finalize_closed Finalize.finalize Settle.next_possible_block Settle.is_unsettled Settle.include Settle.settle Settle.settle_step Settle.unsettled Settle.settle_all Check.check_image Check.check_outcomes Check.check_rest Check.check Map.rounds_left Map.add_entry Map.fit Map.fitting Map.store Map.set_aside Map.try_add_function Map.store_final Map.store_function Map.process_function_at Map.keep_settled Map.finalize_function Map.finalize_functions Map.skip_range Map.is_padding Map.skip_zero Map.skip_alignment Map.section_end Map.new_between Map.found_behind Map.detect_new_functions Map.finalize_or_detect Map.process_next Map.process_step Map.process_functions Map.last_step Map.last_rounds Map.add_symbol Map.first_entries Map.process_entry_point Map.all_finalized Map.walk_given Map.detect_functions Map.detect Lines.line_R Lines.line_F Lines.lines_entry Lines.lines Run.run
whole g cap = Lines.lines (Run.run g cap)

-- lists that no map fills
abbrev pub enough : Map.Capacity
enough = record { entries = 1024; numbers = 4194304 }
