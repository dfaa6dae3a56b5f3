-- Rounds until one changes nothing: what the loop keeps, and that it ends.
use Rattle.std.proofs.Common.{◌≡◌, ℕ, suc, ◌+◌, ◌-◌, ◌*◌, ◌<◌, Bool, true, false, List, [], ◌∷◌, map, length, refl, sym, ap, ◌∙◌, eqb}
use Rattle.rules.specs.Choice.{if, Answer, ok, fault, ◌>>=◌}
use Rattle.rules.specs.Loop as loops
use Rattle.rules.specs.Loop.{loop, loop_step, loop_stop}
use Rattle.rules.specs.Image.{Image}
use Rattle.rules.specs.Known.{Entry}
use Rattle.rules.specs.Map as rules
use Rattle.rules.specs.Map.{Capacity, Round, round, is_changed, rounds_left}
use Rattle.rules.proofs.Placed.{Checked, Table}
use Rattle.rules.proofs.Rounds as rounds
use Rattle.rules.proofs.Passes.{checked_of}
use Rattle.obj_info.specs.declared.info.ObjInfo.{ObjInfo}
use Rattle.obj_info.specs.Info.{image_of}
use Rattle.tables.specs.Rows.{row}
use Rattle.tables.specs.declared.maps.Row.{Row}
use Rattle.walks.proofs.Steps.{after_ok, after_err}
use Rattle.analyzer.specs.declared.AnalyzerState.{AnalyzerState}
use Rattle.analyzer.specs.declared.FunctionInfo.{FunctionInfo}
use Rattle.analyzer.specs.Table.{Holds, info_of}
use Rattle.analyzer.specs.Told.{Rounded, Holding}
use Rattle.rounds.specs.Ready.{Ready}

-- ---- what is still to be done, by the state

abbrev weights_in : List Row → List FunctionInfo → ℕ
weights_in [] infos = 0
weights_in (r ∷ rs) [] = 0
weights_in (r ∷ rs) (i ∷ is) = if i.analyzed (if (eqb r.value 0) 1 0) 2 + weights_in rs is

abbrev pub left : AnalyzerState → Bool → ℕ
left s changed = 2 * (3 * (1024 - length s.known) + weights_in s.known s.infos.items) + if changed 1 0

weights_are : (es : List Entry) → weights_in (map (λ (x : Entry). row x.entry x.end) es) (map info_of es) ≡ rules.weights es
weights_are [] = refl
weights_are (x ∷ es) = ap (λ n. rules.weight x + n) (weights_are es)

length_map : (es : List Entry) → length (map (λ (x : Entry). row x.entry x.end) es) ≡ length es
length_map [] = refl
length_map (x ∷ es) = ap suc (length_map es)

left_is : (cap : Capacity) (s : AnalyzerState) (lists : List ℕ) (es : List Entry) (changed : Bool) → Holds cap s lists es → left s changed ≡ rounds_left (round changed es)
unfolding rounds_left
left_is cap s lists es changed h =
    ap (λ (known : List Row). 2 * (3 * (1024 - length known) + weights_in known s.infos.items) + if changed 1 0) h.knows
    ∙ ap (λ (infos : List FunctionInfo). 2 * (3 * (1024 - length (map (λ (x : Entry). row x.entry x.end) es)) + weights_in (map (λ (x : Entry). row x.entry x.end) es) infos) + if changed 1 0) h.infos
    ∙ ap (λ n. 2 * (3 * (1024 - n) + weights_in (map (λ (x : Entry). row x.entry x.end) es) (map info_of es)) + if changed 1 0) (length_map es)
    ∙ ap (λ n. 2 * (3 * (1024 - length es) + n) + if changed 1 0) (weights_are es)

-- ---- a round

-- an image that is there passed the checks
pub passed : (i : ObjInfo) → Checked (image_of i)
passed i = checked_of _ i.checked

-- a round of entries that a run can have leaves such entries, and less to be done
pub record IsStep (im : Image) (step : Capacity → Round → Answer Round) : Type 0 where
  pub keeps : (cap : Capacity) (r : Round) → is_changed r ≡ true → Table im false true r.entries → loops.Holds (λ (t : Round). Table im false true t.entries) (step cap r)
  pub falls : (cap : Capacity) (r : Round) → is_changed r ≡ true → Table im false true r.entries → loops.Holds (λ t. rounds_left t < rounds_left r) (step cap r)

pub process_steps : (i : ObjInfo) → IsStep (image_of i) (rules.process_step (image_of i))
process_steps i =
    record {
      keeps = λ cap r h t. loops.map_holds (rounds.process_step_sane (image_of i) (passed i) cap r h (record { late = t })) (λ u s. s.late);
      falls = λ cap r h t. rounds.process_falls (image_of i) (passed i) cap r h (record { late = t });
    }

pub last_steps : (i : ObjInfo) → IsStep (image_of i) (rules.last_step (image_of i))
last_steps i =
    record {
      keeps = λ cap r h t. loops.map_holds (rounds.last_sane (image_of i) (passed i) cap r h (record { late = t })) (λ u s. s.late);
      falls = λ cap r h t. rounds.last_falls (image_of i) (passed i) cap r h (record { late = t });
    }

-- ---- the loop

module _ (im : Image) (step : Capacity → Round → Answer Round) where
  abbrev pub rounds_from : Capacity → Round → Answer Round
  rounds_from cap = loop is_changed (step cap) rounds_left

  -- the entries that the state holds now, from which the rounds come to the answer
  pub record Now (cap : Capacity) (a : Answer Round) (changed : Bool) (s : AnalyzerState) (lists : List ℕ) : Type 0 where
    pub entries : List Entry
    pub holds : Holds cap s lists entries
    pub table : Table im false true entries
    pub same : rounds_from cap (round changed entries) ≡ a

  pub record Running (s₀ : AnalyzerState) (lists₀ : List ℕ) (changed : Bool) (s : AnalyzerState) (lists : List ℕ) : Type 0 where
    pub ready : Ready im s lists
    pub now : (cap : Capacity) (es : List Entry) → Holds cap s₀ lists₀ es → Table im false true es → Now cap (rounds_from cap (round true es)) changed s lists

  pub running_first : (s : AnalyzerState) (lists : List ℕ) → Ready im s lists → Running s lists true s lists
  running_first s lists r = record { ready = r; now = λ cap es h t. record { entries = es; holds = h; table = t; same = refl } }

  module _ (s₀ : AnalyzerState) (lists₀ : List ℕ) (changed : Bool) (s : AnalyzerState) (lists : List ℕ) (w : Running s₀ lists₀ changed s lists) where
    pub running_ends : changed ≡ false → (cap : Capacity) (es : List Entry) → Holds cap s₀ lists₀ es → Table im false true es → Rounded cap (rounds_from cap (round true es)) s lists changed
    running_ends e cap es h t =
        let n : Now cap (rounds_from cap (round true es)) changed s lists = w.now cap es h t in
        record { entries = n.entries; is = sym n.same ∙ loop_stop is_changed (step cap) rounds_left (round changed n.entries) e; holds = n.holds }

    module _ (is : IsStep im step) (e : changed ≡ true) where
      -- after one round
      once : (cap : Capacity) (es : List Entry) → Table im false true es → rounds_from cap (round changed es) ≡ (step cap (round true es) >>= rounds_from cap)
      once cap es t =
          ap (λ b. rounds_from cap (round b es)) e
          ∙ loop_step is_changed (step cap) (λ (r : Round). Table im false true r.entries) (is.keeps cap) rounds_left (is.falls cap) (round true es) refl t

      pub running_fails : (n : ℕ) → ((cap : Capacity) (es : List Entry) → Holds cap s lists es → Table im false true es → step cap (round true es) ≡ fault n) → (cap : Capacity) (es : List Entry) → Holds cap s₀ lists₀ es → Table im false true es → rounds_from cap (round true es) ≡ fault n
      running_fails n made cap es h t =
          let v : Now cap (rounds_from cap (round true es)) changed s lists = w.now cap es h t in
          sym v.same ∙ once cap v.entries v.table ∙ after_err _ (sym (made cap v.entries v.holds v.table))

      module _ (changed' : Bool) (s' : AnalyzerState) (lists' : List ℕ) (made : (cap : Capacity) (es : List Entry) → Holds cap s lists es → Table im false true es → Rounded cap (step cap (round true es)) s' lists' changed') where
        made_now : Rounded w.ready.cap (step w.ready.cap (round true w.ready.entries)) s' lists' changed'
        made_now = made w.ready.cap w.ready.entries w.ready.holds w.ready.table

        pub running_on : Running s₀ lists₀ changed' s' lists'
        running_on =
            record {
              ready = record { cap = w.ready.cap; entries = made_now.entries; holds = made_now.holds; table = loops.holds_at (is.keeps w.ready.cap (round true w.ready.entries) refl w.ready.table) made_now.is };
              now = λ cap es h t. next cap es (w.now cap es h t);
            }
          where
            next : (cap : Capacity) (es : List Entry) → Now cap (rounds_from cap (round true es)) changed s lists → Now cap (rounds_from cap (round true es)) changed' s' lists'
            next cap es v =
                let u : Rounded cap (step cap (round true v.entries)) s' lists' changed' = made cap v.entries v.holds v.table in
                record {
                  entries = u.entries;
                  holds = u.holds;
                  table = loops.holds_at (is.keeps cap (round true v.entries) refl v.table) u.is;
                  same = sym (once cap v.entries v.table ∙ after_ok _ (sym u.is)) ∙ v.same;
                }

        pub running_less : left s' changed' < left s changed
        running_less =
            let f : rounds_left (round changed' made_now.entries) < rounds_left (round true w.ready.entries) = loops.holds_at (is.falls w.ready.cap (round true w.ready.entries) refl w.ready.table) made_now.is in
            rw (e, left_is w.ready.cap s' lists' made_now.entries changed' made_now.holds, left_is w.ready.cap s lists w.ready.entries true w.ready.holds) f

-- the entries alone
pub entries_held : (cap : Capacity) (a : Answer Round) (s : AnalyzerState) (lists : List ℕ) (changed : Bool) → Rounded cap a s lists changed → Holding cap (a >>= λ r. ok r.entries) s lists
entries_held cap a s lists changed r = record { entries = r.entries; is = after_ok _ (sym r.is); holds = r.holds }
