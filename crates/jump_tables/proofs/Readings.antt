-- What one word makes of a reading.
use Rattle.std.proofs.Common.{◌≡◌, ℕ, ◌-◌, ◌%◌, ◌≢◌, refl, sym, ap, ◌∙◌, Bool, true, false, List, Option, Some, None, Result, Ok, Err, eqb, arith}
use Rattle.std.specs.Bool.{then_some}
use borrow.Author.Tests.{eq-eqb, ne_eqb, eqb-true, eqb-false}
use Rattle.rules.specs.Choice.{if, if_true, if_false, Answer, ok, fault, limited, ◌>>=◌}
use Rattle.rules.specs.Ordered.{self, put}
use Rattle.rules.specs.Image.{Image, locate}
use Rattle.faults.specs.declared.Fault.{Fault}
use Rattle.faults.specs.Outcome.{outcome}
use Rattle.obj_info.specs.Info.{some_nonzero}
use Rattle.jump_tables.specs.declared.reading.Reading.{Reading}
use Rattle.jump_tables.specs.Readings.{taken, sized_word, is_inside, target_inside}

-- what an Option says of the test that chose it
value : Option ℕ → ℕ
value None = 0
value (Some x) = x

count : Option ℕ → ℕ
count None = 0
count (Some x) = 1

pub chose_some : (b : Bool) (x t : ℕ) → Some t ≡ if b (Some x) None → (b ≡ true) × (x ≡ t)
unfolding if value count
chose_some true x t e = (refl, sym (ap value e))
chose_some false x t e = absurd (let z : ◌≡◌ {A = ℕ} 1 0 = ap count e in omega arith)

pub chose_none : (b : Bool) (x : ℕ) → None ≡ if b (Some x) None → b ≡ false
unfolding if count
chose_none true x e = absurd (let z : ◌≡◌ {A = ℕ} 0 1 = ap count e in omega arith)
chose_none false x e = refl

-- and of the number that it stands for
pub some_is : (t n : ℕ) → Some t ≡ some_nonzero n → (n ≡ t) × (n ≢ 0)
unfolding if value count
some_is t n e = by (eqb n 0) refl e
  where
    by : (b : Bool) → eqb n 0 ≡ b → Some t ≡ if b None (Some n) → (n ≡ t) × (n ≢ 0)
    by true q f = absurd (let z : ◌≡◌ {A = ℕ} 1 0 = ap count f in omega arith)
    by false q f = (sym (ap value f), eqb-false _ _ q)

pub none_is : (n : ℕ) → None ≡ some_nonzero n → n ≡ 0
unfolding if count
none_is n e = by (eqb n 0) refl e
  where
    by : (b : Bool) → eqb n 0 ≡ b → None ≡ if b None (Some n) → n ≡ 0
    by true q f = eqb-true _ _ q
    by false q f = absurd (let z : ◌≡◌ {A = ℕ} 0 1 = ap count f in omega arith)

-- a change of the entries, as one of the reading
within : {B : Type 0} (room : ℕ) (l : List ℕ) (r : Result B Fault) (a : Answer (List ℕ)) → outcome l r ≡ a → ◌≡◌ {A = Answer Reading} (outcome (record { entries = l; room = room }) r) (a >>= λ m. ok (record { entries = m; room = room }))
unfolding ◌>>=◌
within room l (Ok x) a e = rw (← e) refl
within room l (Err x) a e = rw (← e) refl

module _ (v t : ℕ) (s : Reading) where
  pub unaligned : v % 4 ≢ 0 → fault 10 ≡ taken v t s
  unaligned h = sym (if_false (ne_eqb _ 0 h) _ _)

  pub no_room : v % 4 ≡ 0 → s.room ≡ 0 → fault 4 ≡ taken v t s
  no_room h z = sym (if_true (eq-eqb _ 0 h) _ _ ∙ if_true (eq-eqb _ 0 z) _ _)

  pub took : {B : Type 0} (l : List ℕ) (r : Result B Fault) → v % 4 ≡ 0 → s.room ≢ 0 → outcome l r ≡ limited 256 (put self t s.entries) → outcome (record { entries = l; room = s.room - 1 }) r ≡ taken v t s
  took l r h z e = within (s.room - 1) l r (limited 256 (put self t s.entries)) e ∙ sym (if_true (eq-eqb _ 0 h) _ _ ∙ if_false (ne_eqb _ 0 z) _ _)

module _ (im : Image) (v : ℕ) (s : Reading) where
  pub passed_over : v ≡ 0 → ok s ≡ sized_word im v s
  passed_over z = sym (if_true (eq-eqb v 0 z) _ _)

  pub nowhere : v ≢ 0 → None ≡ some_nonzero (locate im v) → fault 9 ≡ sized_word im v s
  nowhere h e = sym (if_false (ne_eqb v 0 h) _ _ ∙ if_true (eq-eqb _ 0 (none_is _ e)) _ _)

  pub somewhere : v ≢ 0 → (t : ℕ) → Some t ≡ some_nonzero (locate im v) → (a : Answer Reading) → a ≡ taken v t s → a ≡ sized_word im v s
  somewhere h t e a q =
      let is = some_is t (locate im v) e in
      q ∙ ap (λ (k : ℕ). taken v k s) (sym is.0) ∙ sym (if_false (ne_eqb v 0 h) _ _ ∙ if_false (ne_eqb _ 0 is.1) _ _)

module _ (im : Image) (first : ℕ) (past : Option ℕ) (v : ℕ) where
  pub outside : None ≡ some_nonzero (locate im v) → None ≡ target_inside im first past v
  unfolding if
  outside e = rw (none_is _ e) refl

  pub target_is : (t : ℕ) → Some t ≡ some_nonzero (locate im v) → (b : Bool) → b ≡ is_inside first past t → then_some b t ≡ target_inside im first past v
  unfolding if
  target_is t e b f =
      let is = some_is t (locate im v) e in
      rw (ne_eqb (locate im v) 0 is.1, is.0, ← f) (by b)
    where
      by : (b : Bool) → then_some b t ≡ if b (Some t) None
      by true = refl
      by false = refl
