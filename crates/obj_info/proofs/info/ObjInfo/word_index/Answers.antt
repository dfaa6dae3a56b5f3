use Rattle.std.proofs.Common.{◌≡◌, true, false, ◌%◌, sym, ◌∙◌}
use Rattle.rules.specs.Choice.{if_false}
use Rattle.rules.specs.Image.{contains, code_section}
use Rattle.obj_info.specs.Info.{image_of}
use Rattle.obj_info.proofs.Lookups.{inside_found, index_small}
use Rattle.obj_info.proofs.info.ObjInfo.word_index.Goals as goal

pub returns-then-not-is_inside-clause-value : goal.returns-then-not-is_inside-clause-value
returns-then-not-is_inside-clause-value c =
    let out : contains (code_section (image_of c.args.self.now)) (c.args.key % 0x1_0000_0000) ≡ false = rw (← c.address_of-a.ensures) (sym c.is_inside.ensures ∙ c.if-not-is_inside.true) in
    sym (if_false out _ _)

pub returns-clause-value : goal.returns-clause-value
returns-clause-value c =
    let inside : contains (code_section (image_of c.args.self.now)) (c.args.key % 0x1_0000_0000) ≡ true = rw (← c.address_of-a.ensures) (sym c.is_inside.ensures ∙ c.if-not-is_inside.false) in
    rw c.address_of-a.ensures (inside_found _ c.args.self.now.checked _ c.args.self.now.is_code _ inside)

pub returns-clause-bound : goal.returns-clause-bound
returns-clause-bound c =
    let inside : contains (code_section (image_of c.args.self.now)) (c.args.key % 0x1_0000_0000) ≡ true = rw (← c.address_of-a.ensures) (sym c.is_inside.ensures ∙ c.if-not-is_inside.false) in
    rw c.address_of-a.ensures (index_small _ c.args.self.now.checked _ c.args.self.now.is_code _ inside)
