-- Branches, one after the other, and the ways on so far.
use Rattle.std.proofs.Common.{◌≡◌, ℕ, Bool, List, [], ◌∷◌, ◌++◌, Some, None, refl, sym, ap, ◌∙◌}
use Rattle.std.proofs.lemmas.List.{append-nil}
use borrow.Author.Tests.{eq-eqb, ne_eqb}
use Rattle.rules.specs.Choice.{if, if_true, if_false, Answer, ok, fault, ◌>>=◌}
use Rattle.rules.specs.Ordered.{empty}
use Rattle.rules.specs.Image.{Branch, to_address, to_table, elsewhere, locate}
use Rattle.rules.specs.Slices.{add_function_reference, set_branches}
use Rattle.rules.specs.Step.{Around, Walk, on_slices, mark_and_push, refers_to, do_branch, branch_to, branch_each, do_branches}
use Rattle.obj_info.specs.Info.{some_nonzero}
use Rattle.walks.proofs.Options.{found, not_found}
use Rattle.walks.proofs.Steps.{after_ok, after_err}

-- one branch
module _ (e : Around) (link : Bool) (t : ℕ) (w : Walk) (out : List ℕ) where
  module _ (k : ℕ) (refers : Some k ≡ some_nonzero (refers_to e link t w.slices)) where
    reference : do_branch e link t w out ≡ (on_slices (add_function_reference k) w >>= λ v. ok (v, out))
    unfolding do_branch
    reference =
        let f = found (refers_to e link t w.slices) k refers in
        if_false (ne_eqb (refers_to e link t w.slices) 0 f.1) _ _ ∙ ap (λ (x : ℕ). on_slices (add_function_reference x) w >>= λ v. ok (v, out)) f.0

    pub reference_ok : (v : Walk) → ok v ≡ on_slices (add_function_reference k) w → ok (v, out ++ []) ≡ do_branch e link t w out
    reference_ok v h = ap (λ (l : List ℕ). ok (v, l)) (append-nil out) ∙ sym (reference ∙ after_ok (λ (v : Walk). ok (v, out)) h)

    pub reference_err : (n : ℕ) → fault n ≡ on_slices (add_function_reference k) w → fault n ≡ do_branch e link t w out
    reference_err n h = sym (reference ∙ after_err (λ (v : Walk). ok (v, out)) h)

  module _ (refers : None ≡ some_nonzero (refers_to e link t w.slices)) where
    onward : do_branch e link t w out ≡ (mark_and_push t w >>= λ v. ok (v, out ++ (t ∷ [])))
    unfolding do_branch
    onward = if_true (eq-eqb (refers_to e link t w.slices) 0 (not_found (refers_to e link t w.slices) refers)) _ _

    pub onward_ok : (v : Walk) → ok v ≡ mark_and_push t w → ok (v, out ++ (t ∷ [])) ≡ do_branch e link t w out
    onward_ok v h = sym (onward ∙ after_ok (λ (v : Walk). ok (v, out ++ (t ∷ []))) h)

    pub onward_err : (n : ℕ) → fault n ≡ mark_and_push t w → fault n ≡ do_branch e link t w out
    onward_err n h = sym (onward ∙ after_err (λ (v : Walk). ok (v, out ++ (t ∷ []))) h)

-- a list of one
alone : (a : Answer (Walk × List ℕ)) → a ≡ (a >>= λ r. ok (r.0, r.1))
unfolding ◌>>=◌
alone (ok r) = refl
alone (fault n) = refl

module _ (e : Around) (link : Bool) (w : Walk) (out : List ℕ) where
  pub to_one : (a : ℕ) (r : Answer (Walk × List ℕ)) (t : ℕ) → t ≡ locate e.image a → r ≡ do_branch e link t w out → r ≡ branch_each e (record { link = link; to = to_address a } ∷ []) w out
  to_one a r t at h = h ∙ ap (λ (x : ℕ). do_branch e link x w out) at ∙ alone (do_branch e link (locate e.image a) w out)

  pub to_a_table : (a : ℕ) → fault 7 ≡ branch_each e (record { link = link; to = to_table a } ∷ []) w out
  unfolding ◌>>=◌
  to_a_table a = refl

  pub to_none : ok (w, out ++ []) ≡ branch_each e (record { link = link; to = elsewhere } ∷ []) w out
  unfolding ◌>>=◌
  to_none = ap (λ (l : List ℕ). ok (w, l)) (append-nil out)

  pub to_nothing : ok (w, out ++ []) ≡ branch_each e [] w out
  to_nothing = ap (λ (l : List ℕ). ok (w, l)) (append-nil out)

-- a list, and another one behind it
pub each_append : (e : Around) (l m : List Branch) (w : Walk) (out : List ℕ) → branch_each e (l ++ m) w out ≡ (branch_each e l w out >>= λ r. branch_each e m r.0 r.1)
unfolding ◌>>=◌
each_append e [] m w out = refl
each_append e (b ∷ l) m w out = go (λ r. each_append e l m r.0 r.1) (branch_to e b.link b.to w out)
  where
    go : ((r : Walk × List ℕ) → branch_each e (l ++ m) r.0 r.1 ≡ (branch_each e l r.0 r.1 >>= λ r. branch_each e m r.0 r.1)) → (a : Answer (Walk × List ℕ)) → (a >>= λ r. branch_each e (l ++ m) r.0 r.1) ≡ ((a >>= λ r. branch_each e l r.0 r.1) >>= λ r. branch_each e m r.0 r.1)
    go f (ok r) = f r
    go f (fault n) = refl

module _ (e : Around) (k : ℕ) (l m : List Branch) (w : Walk) where
  pub first_err : (n : ℕ) → fault n ≡ branch_each e l w [] → fault n ≡ do_branches e k (l ++ m) w
  unfolding do_branches ◌>>=◌
  first_err n h = sym (ap (λ (a : Answer (Walk × List ℕ)). a >>= λ r. if (empty r.1) (ok r.0) (on_slices (set_branches k r.1) r.0)) (each_append e l m w [] ∙ after_err (λ (r : Walk × List ℕ). branch_each e m r.0 r.1) h))

  module _ (v : Walk) (out : List ℕ) (h : ok (v, out) ≡ branch_each e l w []) where
    pub second_err : (n : ℕ) → fault n ≡ branch_each e m v out → fault n ≡ do_branches e k (l ++ m) w
    unfolding do_branches ◌>>=◌
    second_err n h2 = sym (ap (λ (a : Answer (Walk × List ℕ)). a >>= λ r. if (empty r.1) (ok r.0) (on_slices (set_branches k r.1) r.0)) (each_append e l m w [] ∙ after_ok (λ (r : Walk × List ℕ). branch_each e m r.0 r.1) h ∙ sym h2))

    pub both_ok : (u : Walk) (more : List ℕ) → ok (u, more) ≡ branch_each e m v out → do_branches e k (l ++ m) w ≡ if (empty more) (ok u) (on_slices (set_branches k more) u)
    unfolding do_branches ◌>>=◌
    both_ok u more h2 = ap (λ (a : Answer (Walk × List ℕ)). a >>= λ r. if (empty r.1) (ok r.0) (on_slices (set_branches k r.1) r.0)) (each_append e l m w [] ∙ after_ok (λ (r : Walk × List ℕ). branch_each e m r.0 r.1) h ∙ sym h2)
