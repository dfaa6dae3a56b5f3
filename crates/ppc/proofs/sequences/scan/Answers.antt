use Prim.Native.Nat.{◌+◌, ◌*◌, ◌<◌}
use mathlib.Core.Path.{◌≡◌, refl}
use mathlib.Core.Bool.{false}
use borrow.Author.Rules.{rules}
use native.Mathlib.Omega.{arith}
use lib.ListN.{length}
use Rattle.ppc.proofs.Scan.{scan_found, scan_stopped, scan_on, scan_ended, word_is}
use Rattle.ppc.proofs.sequences.scan.Goals as goal

pub returns-then-second : goal.returns-then-second
returns-then-second g c t is =
    let word = word_is _ _ _ _ c.as_chunks.ensures.front c.as_chunks.ensures.front_len c.loop-word-test.true c.from_be_bytes-w.ensures in
    scan_found t _ _ _ _ (c.loop-word.invariant t is) word _ (is _ _ c.from_be_bytes-w.type_inv c.second.ensures) c.if-second.true

pub returns-then-is_end_of_seq : goal.returns-then-is_end_of_seq
returns-then-is_end_of_seq g c t is =
    let word = word_is _ _ _ _ c.as_chunks.ensures.front c.as_chunks.ensures.front_len c.loop-word-test.true c.from_be_bytes-w.ensures in
    let no : false ≡ t c.from_be_bytes-w.result = search (rules, is) in
    scan_stopped t _ _ _ _ (c.loop-word.invariant t is) word _ _ no refl c.is_end_of_seq.ensures c.if-is_end_of_seq.true

pub loop-word-preserved : goal.loop-word-preserved
loop-word-preserved g c t is =
    let word = word_is _ _ _ _ c.as_chunks.ensures.front c.as_chunks.ensures.front_len c.loop-word-test.true c.from_be_bytes-w.ensures in
    scan_on t _ _ _ _ (c.loop-word.invariant t is) word _ _ (is _ _ c.from_be_bytes-w.type_inv c.second.ensures) c.if-second.false c.is_end_of_seq.ensures c.if-is_end_of_seq.false

pub returns : goal.returns
returns g c t is =
    let n = c.as_chunks.ensures.front_len in
    let h : length c.args.bytes.now < 4 * c.loop-word.word-index + 4 = omega arith in scan_ended t _ _ _ (c.loop-word.invariant t is) h
