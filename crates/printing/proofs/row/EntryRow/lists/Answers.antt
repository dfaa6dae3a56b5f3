use Rattle.printing.proofs.Columns.{cut_of}
use Rattle.printing.proofs.row.EntryRow.lists.Goals as goal

pub returns : goal.returns
returns c =
    cut_of _ _ _ _ _ _ _ _ _ _ c.split_at.ensures.front c.split_at.ensures.back c.split_at-2.ensures.front c.split_at-2.ensures.back c.split_at-3.ensures.front c.split_at-3.ensures.back
    c.split_at-4.ensures.front c.split_at-4.ensures.back c.split_at-5.ensures.front c.split_at-5.ensures.back c.split_at-6.ensures.front c.split_at-6.ensures.back
    c.split_at-7.ensures.front c.split_at-7.ensures.back c.split_at-8.ensures.back
