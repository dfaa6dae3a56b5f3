use Rattle.std.proofs.Common.{◌≡◌, ℕ, List, drop, take, OnOk, IfSome, Option, Result, Some, None, Ok, Err, subst, sym, ap, ◌∙◌, take_at}
use Rattle.std.specs.Io.KnownBytes.{Appends}
use Rattle.printing.specs.Told.{Begun}
use Rattle.mapping.specs.Answers.{fmap_text, text_room}
use Rattle.fmap.proofs.write_map.Goals as goal

-- what is written is the map, to its last byte
begun_front : (text before after : List ℕ) (count : ℕ) → Begun text before after count → take count after ≡ text
begun_front text before after count b = ap (take count) b.text ∙ take_at text (drop count before) count (sym b.count)

-- of what was read, if no read failed
of_all : {A E : Type 0} (outcome : Result A E) (known old new : Option (List ℕ)) (read : List ℕ) (room : ℕ) → room ≡ text_room
    → OnOk outcome (IfSome known (λ bytes. read ≡ take room bytes)) → Appends old new (fmap_text read)
    → OnOk outcome (IfSome known (λ bytes. Appends old new (fmap_text (take text_room bytes))))
of_all (Err e) known old new read room r h a = tt
of_all (Ok x) None old new read room r h a = tt
of_all (Ok x) (Some bytes) old new read room r h a = subst (λ t. Appends old new (fmap_text t)) (h ∙ ap (λ k. take k bytes) r) a

pub returns : goal.returns
returns g c =
    let written = subst (Appends _ _) (begun_front _ _ _ _ c.map_read-count.ensures) c.in_ok-write_all.ensures.bytes in
    of_all _ _ _ _ _ _ c.requires.text_room c.read_text-read.ensures.bytes written
