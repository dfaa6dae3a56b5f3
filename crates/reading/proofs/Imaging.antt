-- What each frame of a section, a word or an outcome comes to.
use mathlib.Core.Path.{◌≡◌, refl, sym, ap, ◌∙◌}
use mathlib.Core.List.{List, [], ◌∷◌}
use mathlib.Core.Bool.{Bool, true, false}
use Rattle.std.specs.Prelude.{Option, None, Some}
use Prim.Native.Nat.{ℕ, ◌<◌, ◌≤◌}
use native.Mathlib.Decide.{dec_lt}
use native.Mathlib.Omega.{arith}
use lib.Dec.{leb}
use lib.ListN.{length, take}
use lib.Seq.{length-take-le}
use borrow.Author.Tests.{le-leb, lt-leb, eq-eqb, ne_eqb}
use Rattle.rules.specs.Choice.{if}
use Rattle.obj_image.specs.Lent.{Lent}
use Rattle.reading.specs.declared.line.Frame.{Frame}
use Rattle.reading.specs.declared.line.Frame.TheVariants.{Section as section, Word as word, CodeWord as code_word, Target as target, Table as table, Branch as branch}
use Rattle.reading.specs.declared.rows.Count.{Count}
use Rattle.reading.specs.Rows.{add_row, counted, Added}
use Rattle.reading.specs.LastRows.{last_kind, both, WordAdded, set_target, set_table, add_branch, told, Told}
use Rattle.reading.proofs.Ending.{no_section}
use Rattle.reading.specs.PutFrame.{onward, put_word, put_outcome, put_frame, put_line, in_both, in_outcomes, in_sections}
use Rattle.reading.specs.View.{lists, view, room, WordPut, ImagePut, ToldPut}
use Rattle.reading.specs.declared.state.Reading.{Reading}
use Rattle.reading.proofs.Giving.{onward_if}

-- ---- a word

module _ (kind w : ℕ) (r : Reading) (s b : List ℕ) (ws : r.sections ≤ length s) (wb : r.bytes ≤ length b) (t : ℕ) (et : t ≡ last_kind (take r.sections s)) where
  pub section_there : 1 ≤ kind → t ≡ kind → 4 ≤ r.sections
  section_there lo e = by (dec_lt r.sections 4)
    where
      by : Dec (r.sections < 4) → 4 ≤ r.sections
      by (yes h) = let z : 0 ≡ last_kind (take r.sections s) = no_section r.sections s ws h in absurd (omega arith)
      by (no h) = omega arith

  pub word_goes : t ≡ kind → (c : Count) (s' b' : List ℕ) → WordAdded r.sections r.bytes w s s' b b' c → WordPut kind w r record { ok = c.ok; sections = r.sections; bytes = c.count; outcomes = r.outcomes; functions = r.functions; objects = r.objects; skips = r.skips; entry = r.entry } s s' b b'
  unfolding view both if
  word_goes e c s' b' a =
      record {
        size_s = a.sections;
        size_b = a.bytes;
        within_b = a.within;
        sections = refl;
        outcomes = refl;
        functions = refl;
        objects = refl;
        skips = refl;
        entry = refl;
        same =
            λ o f j k x. onward_if (in_both (lists r s b o f j k x)) c.ok (take r.sections s', take c.count b')
            ∙ ap (onward (in_both (lists r s b o f j k x))) a.same
            ∙ rw (sym et) (rw (eq-eqb t kind e) refl);
      }

  pub word_stays : (t ≡ kind → ⊥) → WordPut kind w r record { ok = false; sections = r.sections; bytes = r.bytes; outcomes = r.outcomes; functions = r.functions; objects = r.objects; skips = r.skips; entry = r.entry } s s b b
  unfolding view if
  word_stays e =
      record {
        size_s = refl;
        size_b = refl;
        within_b = wb;
        sections = refl;
        outcomes = refl;
        functions = refl;
        objects = refl;
        skips = refl;
        entry = refl;
        same = λ o f j k x. rw (sym et) (rw (ne_eqb t kind e) refl);
      }

-- ---- a code word

module _ (w kind mark : ℕ) (r : Reading) (s b o : List ℕ) (ws : r.sections ≤ length s) (wb : r.bytes ≤ length b) (wo : r.outcomes ≤ length o) (p : Reading) (s' b' : List ℕ) (a : WordPut 1 w r p s s' b b') where
  long : length (take r.outcomes o) ≡ r.outcomes
  long = length-take-le r.outcomes o wo

  within : p.sections ≤ length s'
  within = omega (arith, a.sections, a.size_s)

  -- without its word there is no outcome
  pub code_stays : p.ok ≡ false → ImagePut (code_word w kind mark) r p s s' b b' o o
  unfolding view put_line put_frame if
  code_stays e =
      record {
        size_s = a.size_s;
        size_b = a.size_b;
        size_o = refl;
        within_s = within;
        within_b = a.within_b;
        within_o = omega (arith, a.outcomes);
        functions = a.functions;
        objects = a.objects;
        skips = a.skips;
        entry = a.entry;
        same =
            λ f j k z.
            let M = room s b o f j k z in
            let no : put_word M 1 w (lists r s b o f j k z) ≡ None = sym (a.same o f j k z) ∙ rw e refl in
            rw e (ap (put_outcome M kind mark) (sym no));
      }

  module _ (yes_ok : p.ok ≡ true) where
    the_word : (f j k z : List ℕ) → put_word (room s b o f j k z) 1 w (lists r s b o f j k z) ≡ Some (lists p s' b' o f j k z)
    unfolding view if
    the_word f j k z = sym (a.same o f j k z) ∙ rw yes_ok refl

    pub code_full : 6138 < r.outcomes → ImagePut (code_word w kind mark) r record { ok = false; sections = p.sections; bytes = p.bytes; outcomes = p.outcomes; functions = p.functions; objects = p.objects; skips = p.skips; entry = p.entry } s s' b b' o o
    unfolding view put_line put_frame if
    code_full lt =
        record {
          size_s = a.size_s;
          size_b = a.size_b;
          size_o = refl;
          within_s = within;
          within_b = a.within_b;
          within_o = omega (arith, a.outcomes);
          functions = a.functions;
          objects = a.objects;
          skips = a.skips;
          entry = a.entry;
          same =
              λ f j k z.
              let M = room s b o f j k z in
              let n : leb (length (take p.outcomes o)) 6138 ≡ false = rw a.outcomes (rw long (lt-leb r.outcomes 6138 lt)) in
              let out : None ≡ put_outcome M kind mark (Some (lists p s' b' o f j k z)) = rw n refl in
              out ∙ ap (put_outcome M kind mark) (sym (the_word f j k z));
        }

    pub code_goes : r.outcomes ≤ 6138 → (c : Count) (o' : List ℕ) → Added 6138 r.outcomes (kind ∷ mark ∷ 0 ∷ 0 ∷ 0 ∷ 0 ∷ []) o o' c → ImagePut (code_word w kind mark) r record { ok = c.ok; sections = p.sections; bytes = p.bytes; outcomes = c.count; functions = p.functions; objects = p.objects; skips = p.skips; entry = p.entry } s s' b b' o o'
    unfolding view counted put_line put_frame if
    code_goes le c o' d =
        record {
          size_s = a.size_s;
          size_b = a.size_b;
          size_o = d.size;
          within_s = within;
          within_b = a.within_b;
          within_o = d.within;
          functions = a.functions;
          objects = a.objects;
          skips = a.skips;
          entry = a.entry;
          same =
              λ f j k z.
              let M = room s b o f j k z in
              let L : Lent = lists p s' b' o f j k z in
              let row : List ℕ = kind ∷ mark ∷ 0 ∷ 0 ∷ 0 ∷ 0 ∷ [] in
              let n : leb (length (take p.outcomes o)) 6138 ≡ true = rw a.outcomes (rw long (le-leb r.outcomes 6138 le)) in
              let out : onward (in_outcomes L) (add_row 6138 (length o) row (take p.outcomes o)) ≡ put_outcome M kind mark (Some L) = rw n refl in
              onward_if (in_outcomes L) c.ok (take c.count o')
              ∙ ap (onward (in_outcomes L)) (d.same ∙ ap (λ (i : ℕ). add_row 6138 (length o) row (take i o)) (sym a.outcomes))
              ∙ out
              ∙ ap (put_outcome M kind mark) (sym (the_word f j k z));
        }

-- ---- what the last code word does

module _ (r : Reading) (o o' : List ℕ) (t : Bool) where
  abbrev told_so : Reading
  told_so = record { ok = t; sections = r.sections; bytes = r.bytes; outcomes = r.outcomes; functions = r.functions; objects = r.objects; skips = r.skips; entry = r.entry }

  -- the outcomes that a frame makes of these
  told_as : (x : Frame) (z : Option (List ℕ)) → ((s b f j k e : List ℕ) → onward (in_outcomes (lists r s b o f j k e)) z ≡ put_line (room s b o f j k e) (Some x) (lists r s b o f j k e)) → Told r.outcomes o o' t z → ToldPut x r told_so o o'
  unfolding view told if
  told_as x z is a =
      record {
        size_o = a.size;
        sections = refl;
        bytes = refl;
        outcomes = refl;
        functions = refl;
        objects = refl;
        skips = refl;
        entry = refl;
        same =
            λ s b f j k e. onward_if (in_outcomes (lists r s b o f j k e)) t (take r.outcomes o')
            ∙ ap (onward (in_outcomes (lists r s b o f j k e))) a.same
            ∙ is s b f j k e;
      }

  pub told_target : (a : ℕ) → Told r.outcomes o o' t (set_target a (take r.outcomes o)) → ToldPut (target a) r told_so o o'
  unfolding put_line put_frame if
  told_target a = told_as (target a) _ (λ s b f j k e. refl)

  pub told_table : (a m : ℕ) → Told r.outcomes o o' t (set_table a m (take r.outcomes o)) → ToldPut (table a m) r told_so o o'
  unfolding put_line put_frame if
  told_table a m = told_as (table a m) _ (λ s b f j k e. refl)

  pub told_branch : (l w a : ℕ) → Told r.outcomes o o' t (add_branch l w a (take r.outcomes o)) → ToldPut (branch l w a) r told_so o o'
  unfolding put_line put_frame if
  told_branch l w a = told_as (branch l w a) _ (λ s b f j k e. refl)

-- ---- all of these

module _ (r : Reading) (s b o : List ℕ) (ws : r.sections ≤ length s) (wb : r.bytes ≤ length b) (wo : r.outcomes ≤ length o) where
  pub image_section : (kind base size : ℕ) (c : Count) (s' : List ℕ) → Added 32 r.sections (kind ∷ base ∷ size ∷ 0 ∷ []) s s' c → ImagePut (section kind base size) r record { ok = c.ok; sections = c.count; bytes = r.bytes; outcomes = r.outcomes; functions = r.functions; objects = r.objects; skips = r.skips; entry = r.entry } s s' b b o o
  unfolding view counted put_line put_frame if
  image_section kind base size c s' a =
      record {
        size_s = a.size;
        size_b = refl;
        size_o = refl;
        within_s = a.within;
        within_b = wb;
        within_o = wo;
        functions = refl;
        objects = refl;
        skips = refl;
        entry = refl;
        same =
            λ f j k e. onward_if (in_sections (lists r s b o f j k e)) c.ok (take c.count s') ∙ ap (onward (in_sections (lists r s b o f j k e))) a.same;
      }

  pub image_word : (w : ℕ) (q : Reading) (s' b' : List ℕ) → WordPut 2 w r q s s' b b' → ImagePut (word w) r q s s' b b' o o
  unfolding put_line put_frame if
  image_word w q s' b' a =
      record {
        size_s = a.size_s;
        size_b = a.size_b;
        size_o = refl;
        within_s = omega (arith, a.sections, a.size_s);
        within_b = a.within_b;
        within_o = omega (arith, a.outcomes);
        functions = a.functions;
        objects = a.objects;
        skips = a.skips;
        entry = a.entry;
        same = λ f j k e. a.same o f j k e;
      }

  pub image_told : (x : Frame) (q : Reading) (o' : List ℕ) → ToldPut x r q o o' → ImagePut x r q s s b b o o'
  image_told x q o' a =
      record {
        size_s = refl;
        size_b = refl;
        size_o = a.size_o;
        within_s = omega (arith, a.sections);
        within_b = omega (arith, a.bytes);
        within_o = omega (arith, a.outcomes, a.size_o);
        functions = a.functions;
        objects = a.objects;
        skips = a.skips;
        entry = a.entry;
        same = λ f j k e. a.same s b f j k e;
      }
