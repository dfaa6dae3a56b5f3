-- A stretch that the walk goes over at once is so many steps of the walk.
use Rattle.std.proofs.Common.{◌≡◌, ℕ, zero, suc, ◌+◌, ◌*◌, ◌-◌, ◌/◌, ◌<◌, ◌≤◌, refl, sym, ap, ◌∙◌, Bool, true, false, ◌&&◌, ◌||◌, Some, None, get_or, ltb, arith}
use Rattle.std.specs.Prelude.{not}
use mathlib.Core.Bool.{and-false, false≢true}
use borrow.Author.Tests.{le-leb, lt-ltb, not-true}
use Rattle.rules.specs.Choice.{if, if_true, if_false}
use Rattle.rules.specs.Address.{address_of}
use Rattle.rules.specs.Image as images
use Rattle.rules.specs.Image.{Image, Outcome, Told, code_section, code_words, contains, index}
use Rattle.rules.specs.Plain.{plain, Quick, Passes, leap, with_run}
use Rattle.rules.specs.Step as steps
use Rattle.rules.specs.Step.{Around, Walk, Place, idle, at, nowhere}
use Rattle.rules.specs.Walk as rules
use Rattle.rules.proofs.Plain.{next_index, leap_none, leap_run, leap_left}
use Rattle.rules.proofs.Tests.{and_left, and_right}
use Rattle.rules.proofs.WalkEnds.{Sound}
use Rattle.obj.specs.Outcomes.{is_go_on, goes_on}
use Rattle.execution.specs.Stretch.{quick, goes_over, both_go_on, begins, stretch, how_many}
use Rattle.walks.specs.State.{place_of}
use Rattle.walks.specs.declared.walk.Place as walks
use Rattle.walks.specs.declared.walk.Place.TheVariants.{Idle, At, Nowhere}
use Rattle.execution.specs.Spot.{is_spot, behind, spot_in}
use Rattle.execution.specs.declared.plain.Spot.{Spot}
use Rattle.execution.specs.Skip.{at_once, skipped_at, skipped}
use Rattle.execution.proofs.Clear.{Aside, few, aside}
use Rattle.execution.proofs.Scans.{stretch_within, stretch_each}
use Rattle.execution.proofs.Spots.{inside, to_end, no_spot, is_found, number, others}
use Rattle.execution.proofs.Words.{low, further, further_low}

-- going on is to go on
only_go_on : (o : Outcome) → is_go_on o ≡ true → o ≡ images.go_on
only_go_on images.go_on h = refl
only_go_on images.illegal h = absurd (false≢true h)
only_go_on images.unknown h = absurd (false≢true h)
only_go_on images.return h = absurd (false≢true h)
only_go_on (images.jump a) h = absurd (false≢true h)
only_go_on (images.jump_table a n) h = absurd (false≢true h)
only_go_on (images.branches l) h = absurd (false≢true h)

-- ---- a code word, by its number

module _ (im : Image) (k i : ℕ) (at_k : index im k ≡ i) (within : contains (code_section im) (address_of k) ≡ true) (h : quick im i ≡ true) where
  here : images.word im (address_of k) ≡ get_or (code_section im).words i images.no_word
  unfolding images.word index
  here =
      let m : address_of (address_of k) ≡ address_of k = omega arith in
      if_true within _ _ ∙ ap (λ (a : ℕ). get_or (code_section im).words ((a - (code_section im).base) / 4) images.no_word) m ∙ ap (λ (n : ℕ). get_or (code_section im).words n images.no_word) at_k

  pub quick_is : Quick im k
  unfolding quick goes_on images.told_at
  quick_is =
      record {
        inside = within;
        is_plain = ap plain here ∙ and_right (goes_on im i) _ h;
        goes = ap (λ (n : ℕ). (get_or im.told n (record { outcome = images.illegal; mark = false })).outcome) at_k ∙ only_go_on _ (and_left _ _ h);
      }

-- ---- the words of a stretch

module _ (e : Around) (sound : Sound e.image) (k b : ℕ) (w : Walk) (spot : is_spot e.image k b ≡ true) (begun : begins e.image w.visited (index e.image k) ≡ true) where
  abbrev im : Image
  im = e.image

  abbrev i : ℕ
  i = index im k

  abbrev most : ℕ
  most = how_many e w.slices k (behind im k)

  abbrev words : ℕ
  words = stretch im w.visited i most

  module _ (j : ℕ) (h : j < words) where
    under : j < most
    under = omega (arith, h, stretch_within im w.visited i most)

    in_code : i + j < code_words im
    in_code = omega (arith, under, few e w.slices k (behind im k), to_end im k b spot sound)

    address : address_of (k + 4 * j) ≡ address_of k + 4 * j
    address = omega (arith, further_low im sound k (inside im k b spot) j in_code)

    within : contains (code_section im) (address_of (k + 4 * j)) ≡ true
    within =
        rw (
          address,
          le-leb (code_section im).base (address_of k + 4 * j) (omega (arith, low im sound k (inside im k b spot))),
          lt-ltb (address_of k + 4 * j) ((code_section im).base + (code_section im).size) (further im sound k (inside im k b spot) j in_code),
        ) refl

    nth : index im (k + 4 * j) ≡ i + j
    unfolding index
    nth = omega (arith, address, low im sound k (inside im k b spot))

    over : goes_over im w.visited (i + j) ≡ true
    over = stretch_each im w.visited i most j h

    next_new : w.visited (i + j + 1) ≡ false
    unfolding goes_over
    next_new = not-true _ (and_left _ _ over)

    is_quick : Quick im (k + 4 * j)
    unfolding goes_over
    is_quick = quick_is im (k + 4 * j) (i + j) nth within (and_right (not (w.visited (i + j + 1))) _ over)

    is_aside : Aside e w.slices (k + 4 * j)
    is_aside = aside e w.slices k (behind im k) j under

    unmet : steps.is_met e (k + 4 * j + 4) w ≡ false
    unfolding steps.is_met steps.seen
    unmet =
        let next : index im (k + 4 * j + 4) ≡ i + j + 1 = omega (arith, next_index im sound (k + 4 * j) within, nth) in
        rw (ap w.visited next ∙ next_new, and-false (images.in_code im (k + 4 * j + 4))) is_aside.no_start

  -- the first was not visited, and each of the others is the next of one
  new : (j : ℕ) → j < words → w.visited (i + j) ≡ false
  unfolding begins
  new zero h = let z : i + 0 ≡ i = omega arith in ap w.visited z ∙ not-true _ (and_left _ _ (and_right (both_go_on im i) _ begun))
  new (suc j) h = let z : i + suc j ≡ i + j + 1 = omega arith in ap w.visited z ∙ next_new j (omega arith)

  passes : (j : ℕ) → j < words → Passes e (k + 4 * j) w
  passes j h =
      record {
        quick = is_quick j h;
        free = record { not_possible = (is_aside j h).not_possible; not_known = (is_aside j h).own; new = ap w.visited (nth j h) ∙ new j h; next = unmet j h };
      }

-- ---- how many are gone over

module _ (e : Around) (k b : ℕ) (w : Walk) where
  none_at_once : is_spot e.image k b ≡ false → at_once e k b w ≡ 0
  unfolding at_once
  none_at_once h = if_false (rw h refl) _ _

  module _ (spot : is_spot e.image k b ≡ true) where
    none_begun : begins e.image w.visited (index e.image k) ≡ false → at_once e k b w ≡ 0
    unfolding at_once
    none_begun h = if_false (rw (spot, h) refl) _ _

    some_at_once : begins e.image w.visited (index e.image k) ≡ true → at_once e k b w ≡ stretch e.image w.visited (index e.image k) (how_many e w.slices k (behind e.image k))
    unfolding at_once
    some_at_once h = if_true (rw (spot, h) refl) _ _

  all_pass : Sound e.image → (j : ℕ) → j < at_once e k b w → Passes e (k + 4 * j) w
  unfolding at_once if
  all_pass sound j h = by (is_spot e.image k b) refl (begins e.image w.visited (index e.image k)) refl h
    where
      by : (s : Bool) → is_spot e.image k b ≡ s → (t : Bool) → begins e.image w.visited (index e.image k) ≡ t → j < if (s && t) (stretch e.image w.visited (index e.image k) (how_many e w.slices k (behind e.image k))) 0 → Passes e (k + 4 * j) w
      by true s true t h = passes e sound k b w s t j h
      by true s false t h = absurd (omega arith)
      by false s t q h = absurd (omega arith)

-- ---- the walk

module _ (e : Around) (w : Walk) where
  -- before no word, or where no stretch is, nothing changes
  unmoved : (p : Place) → w.place ≡ p → ((k b : ℕ) → p ≡ at k b → ⊥) → w ≡ skipped e w
  unfolding skipped
  unmoved idle h n = rw h refl
  unmoved (at k b) h n = absurd (n k b refl)
  unmoved nowhere h n = rw h refl

  module _ (k b : ℕ) (h : w.place ≡ at k b) where
    leapt : leap e k b (at_once e k b w) w ≡ skipped e w
    unfolding skipped
    leapt = ap (λ (p : Place). skipped_at e p w) (sym h)

    stayed : Sound e.image → at_once e k b w ≡ 0 → w ≡ skipped e w
    stayed sound z = sym (leap_none e sound k b w h) ∙ ap (λ (n : ℕ). leap e k b n w) (sym z) ∙ leapt

  module _ (sound : Sound e.image) where
    pub skipped_run : rules.run_walk e (skipped e w) ≡ rules.run_walk e w
    unfolding skipped
    skipped_run = by w.place refl
      where
        by : (p : Place) → w.place ≡ p → rules.run_walk e (skipped_at e p w) ≡ rules.run_walk e w
        by idle h = refl
        by (at k b) h = sym (leap_run e sound k b w (at_once e k b w) h (all_pass e k b w sound))
        by nowhere h = refl

    pub skipped_left : rules.left e (skipped e w) ≤ rules.left e w
    unfolding skipped
    skipped_left = by w.place refl
      where
        by : (p : Place) → w.place ≡ p → rules.left e (skipped_at e p w) ≤ rules.left e w
        by idle h = omega arith
        by (at k b) h = leap_left e sound k b w (at_once e k b w) h (all_pass e k b w sound)
        by nowhere h = omega arith

    pub skipped_live : rules.live w ≡ true → rules.live (skipped e w) ≡ true
    unfolding skipped rules.live leap
    skipped_live l = by w.place refl
      where
        by : (p : Place) → w.place ≡ p → rules.live (skipped_at e p w) ≡ true
        by idle h = l
        by (at k b) h = refl
        by nowhere h = l

-- ---- by what is found

-- the walk is before no word
pub not_before : (e : Around) (w : Walk) (p : walks.Place) → w.place ≡ place_of p → ((x y : ℕ) → p ≡ At x y → ⊥) → w ≡ skipped e w
not_before e w p h n = unmoved e w (place_of p) h (other p n)
  where
    other : (p : walks.Place) → ((x y : ℕ) → p ≡ At x y → ⊥) → (k b : ℕ) → place_of p ≡ at k b → ⊥
    other Idle n k b q = cc
    other (At x y) n k b q = n x y refl
    other Nowhere n k b q = cc

module _ (e : Around) (sound : Sound e.image) (w : Walk) (k b : ℕ) (h : w.place ≡ at k b) where
  -- no stretch is looked for
  pub not_spotted : None ≡ spot_in e.image k b → w ≡ skipped e w
  not_spotted none = stayed e w k b h sound (none_at_once e k b w (no_spot e.image k b none))

  module _ (s : Spot) (found : Some s ≡ spot_in e.image k b) (t : Bool) (is_t : t ≡ begins e.image w.visited s.index) where
    at_index : begins e.image w.visited (index e.image k) ≡ t
    at_index = ap (begins e.image w.visited) (sym (number e.image k b sound s found)) ∙ sym is_t

    -- none begins
    pub not_begun : t ≡ false → w ≡ skipped e w
    not_begun q = stayed e w k b h sound (none_begun e k b w (is_found e.image k b sound s found) (at_index ∙ q))

    -- one does
    pub gone_over : t ≡ true → (most n : ℕ) → most ≡ how_many e w.slices k s.behind → n ≡ stretch e.image w.visited s.index most → (v : ℕ → Bool) → v ≡ with_run w.visited s.index n →
        record { slices = w.slices; visited = v; pending = w.pending; fresh = w.fresh || ltb 0 n; place = at (k + 4 * n) b } ≡ skipped e w
    unfolding leap
    gone_over q most n is_most is_n v is_v =
        let same : n ≡ at_once e k b w =
        is_n
        ∙ ap (stretch e.image w.visited s.index) (is_most ∙ ap (how_many e w.slices k) (others e.image k b sound s found))
        ∙ ap (λ (i : ℕ). stretch e.image w.visited i (how_many e w.slices k (behind e.image k))) (number e.image k b sound s found)
        ∙ sym (some_at_once e k b w (is_found e.image k b sound s found) (at_index ∙ q)) in
        rw (is_v, number e.image k b sound s found, same) (leapt e w k b h)
