-- A mark, by the block that reaches over the address.
use Rattle.std.proofs.Common.{sym, Ok, Err}
use Rattle.std.proofs.lemmas.Result.{err_from_is_err_and}
use Rattle.slices.proofs.Marks.{cut_none, cut_is, cut_new, held_is, held_new, open_is, open_new}
use Rattle.slices.proofs.basic_blocks.add_block_start.Goals as goal

pub returns-in_err-insert-in-Some-clause-marked : goal.returns-in_err-insert-in-Some-clause-marked
returns-in_err-insert-in-Some-clause-marked g c =
    let p = err_from_is_err_and c.from_residual.result c.from_residual.ensures.1 in
    rw (p.1, p.2) (cut_none c.args.addr c.args.blocks.now c.in-Some.block c.in-Some.ensures _ _ c.in_err-insert-in-Some.ensures)

pub returns-in_err-insert-in-Some-2-clause-marked : goal.returns-in_err-insert-in-Some-2-clause-marked
returns-in_err-insert-in-Some-2-clause-marked g c =
    let p = err_from_is_err_and c.from_residual-in_err-insert-in-Some-2.result c.from_residual-in_err-insert-in-Some-2.ensures.1 in
    rw (p.1, p.2)
    (cut_is c.args.addr c.args.blocks.now c.in-Some.block c.in-Some.ensures {X = Unit {0}} g.row.N _ c.insert-in-Some.new.self (Err c.in_err-insert-in-Some-2.field-0.0) c.in_ok-insert-in-Some.ensures c.in_err-insert-in-Some-2.ensures)

pub returns-in_ok-insert-in-Some-2-clause-marked : goal.returns-in_ok-insert-in-Some-2-clause-marked
returns-in_ok-insert-in-Some-2-clause-marked g c =
    cut_is c.args.addr c.args.blocks.now c.in-Some.block c.in-Some.ensures {X = Unit {0}} g.row.N _ _ (Ok (tt {0})) c.in_ok-insert-in-Some.ensures c.in_ok-insert-in-Some-2.ensures

pub returns-in_ok-insert-in-Some-2-clause-new : goal.returns-in_ok-insert-in-Some-2-clause-new
returns-in_ok-insert-in-Some-2-clause-new g c = cut_new c.args.addr c.args.blocks.now c.in-Some.block c.in-Some.ensures

pub returns-then-contains_key-clause-marked : goal.returns-then-contains_key-clause-marked
returns-then-contains_key-clause-marked g c = held_is c.args.addr c.args.blocks.now c.in-None.ensures _ (sym c.if-contains_key.ensures.value) c.if-contains_key.ensures.fits

pub returns-then-contains_key-clause-new : goal.returns-then-contains_key-clause-new
returns-then-contains_key-clause-new g c = held_new c.args.addr c.args.blocks.now c.in-None.ensures (sym c.if-contains_key.ensures.value)

pub returns-in_err-insert-in-None-clause-marked : goal.returns-in_err-insert-in-None-clause-marked
returns-in_err-insert-in-None-clause-marked g c =
    let p = err_from_is_err_and c.from_residual-in_err-insert-in-None.result c.from_residual-in_err-insert-in-None.ensures.1 in
    rw (p.1, p.2)
    (open_is c.args.addr c.args.blocks.now c.in-None.ensures {X = Unit {0}} g.row.N c.insert-in-None.new.self (Err c.in_err-insert-in-None.field-0.0) (sym c.if-contains_key.ensures.value) c.in_err-insert-in-None.ensures)

pub returns-in_ok-insert-in-None-clause-marked : goal.returns-in_ok-insert-in-None-clause-marked
returns-in_ok-insert-in-None-clause-marked g c = open_is c.args.addr c.args.blocks.now c.in-None.ensures {X = Unit {0}} g.row.N _ (Ok (tt {0})) (sym c.if-contains_key.ensures.value) c.in_ok-insert-in-None.ensures

pub returns-in_ok-insert-in-None-clause-new : goal.returns-in_ok-insert-in-None-clause-new
returns-in_ok-insert-in-None-clause-new g c = open_new c.args.addr c.args.blocks.now c.in-None.ensures (sym c.if-contains_key.ensures.value)
