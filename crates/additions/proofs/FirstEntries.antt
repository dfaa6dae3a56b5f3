-- Function symbols become entries.
use Rattle.std.proofs.Common.{◌≡◌, ℕ, ◌+◌, Bool, true, false, List, [], length, get_or, leb, min, refl, sym, ap, ◌∙◌}
use Rattle.std.specs.Prelude.{Option, Result}
use Rattle.std.specs.Bool.{then_some}
use Rattle.rules.specs.Choice.{if, by_if, if_true, Answer, ok, fault, limited, ◌>>=◌}
use Rattle.rules.specs.Address as addresses
use Rattle.rules.specs.Image as images
use Rattle.rules.specs.Ordered.{has, put, upper}
use Rattle.rules.proofs.Ordered.{has_at}
use Rattle.rules.specs.Known.{Entry, entry_of, new_entry}
use Rattle.rules.specs.Map as rules
use Rattle.rules.specs.Given as given
use Rattle.obj_rows.specs.declared.symbols.Symbol.{Symbol}
use Rattle.obj_rows.specs.Symbols.{symbol_by, symbol_of}
use Rattle.obj_info.specs.Info.{symbol_in}
use Rattle.slices.specs.Some.{or_zero}
use Rattle.walks.proofs.Steps.{after_ok, after_err}
use Rattle.faults.specs.declared.Fault.{Fault}
use Rattle.analyzer.proofs.Rows.{upper_at, put_there}
use Rattle.analyzer.specs.declared.AnalyzerState.{AnalyzerState}
use Rattle.analyzer.specs.Table.{Holds}
use Rattle.analyzer.specs.Told.{with_end, end_set, Holding, Told}

-- ---- a symbol of three numbers

pub row_is : (r : List ℕ) (s : Symbol) → length r ≡ 3 → s ≡ symbol_by r → symbol_in r ≡ given.symbol_of (symbol_of s)
row_is r s h e = rw (e, h) (ap (λ (a : ℕ). given.symbol_of (record { address = a; size = get_or r 1 0; known = get_or r 2 0 })) (if_true refl (get_or r 0 0) 1))

-- the end that its size gives
pub end_given : (known : Bool) (key size n : ℕ) (end : Option ℕ) → end ≡ then_some known (key + n) → n ≡ size → or_zero end ≡ if known (key + size) 0
unfolding if
end_given true key size n end e f = rw e (ap (λ (x : ℕ). key + x) f)
end_given false key size n end e f = rw e refl

-- ---- a symbol's entry

-- an entry at k has that key
key_there : (k : ℕ) (d : Entry) (es : List Entry) → has entry_of k es ≡ true → (upper entry_of k d es).entry ≡ k
key_there k d es h = ap entry_of (upper_at k d es) ∙ has_at entry_of d k es h

module _ (im : images.Image) (cap : rules.Capacity) (s : images.Symbol) where
  abbrev k : ℕ
  k = addresses.key (images.code_number im) s.address

  abbrev end : ℕ
  end = if s.known (k + s.size) 0

  ended : List Entry → Answer (List Entry)
  ended fs = ok (put entry_of (with_end end (upper entry_of k (new_entry k) fs)) fs)

  named : List Entry → Answer (List Entry)
  named fs = ok (put entry_of (rules.set_end im cap s (upper entry_of k (new_entry k) fs)) fs)

  same : (fs : List Entry) → (upper entry_of k (new_entry k) fs).entry ≡ k → ended fs ≡ named fs
  unfolding ended named
  same fs e = ap (λ (j : ℕ). ok (put entry_of (with_end (if s.known (j + s.size) 0) (upper entry_of k (new_entry k) fs)) fs)) (sym e)

  symbol_there : (es : List Entry) → end_set cap k end es ≡ rules.add_symbol im cap s es
  unfolding end_set rules.add_symbol rules.add_entry limited ◌>>=◌ ended named
  symbol_there es =
      by_if (λ (a : Answer (List Entry)). a >>= ended ≡ a >>= named) (has entry_of k es) (λ h. same es (key_there k (new_entry k) es h))
      (λ h. by_if (λ (a : Answer (List Entry)). a >>= ended ≡ a >>= named) (leb (length (put entry_of (new_entry k) es)) (min 1024 cap.entries)) (λ f. same (put entry_of (new_entry k) es) (key_there k (new_entry k) (put entry_of (new_entry k) es) (put_there (new_entry k) es).1)) (λ f. refl))

  -- a symbol's entry has the end that its size gives
  pub symbol_is : (j e : ℕ) → j ≡ k → e ≡ if s.known (j + s.size) 0 → (es : List Entry) → rules.add_symbol im cap s es ≡ end_set cap j e es
  symbol_is j e p q es = sym (ap (λ (x : ℕ). end_set cap j x es) q ∙ ap (λ (x : ℕ). end_set cap x (if s.known (x + s.size) 0) es) p ∙ symbol_there es)

-- ---- the first entries

module _ (im : images.Image) (cap : rules.Capacity) (symbols : List images.Symbol) (all : symbols ≡ im.functions) where
  pub first_fails : (n : ℕ) → rules.add_symbols im cap symbols [] ≡ fault n → rules.first_entries im cap ≡ fault n
  unfolding rules.first_entries
  first_fails n e = after_err _ (sym e ∙ ap (λ (s : List images.Symbol). rules.add_symbols im cap s []) all)

  pub first_told : {B : Type 0} (a a' : AnalyzerState) (lists : List ℕ) → Holding cap (rules.add_symbols im cap symbols []) a lists → (k : ℕ) → k ≡ addresses.key (images.code_number im) (images.code_section im).base → (r : Result B Fault) → ((es : List Entry) → Holds cap a lists es → Told cap (rules.add_entry cap k es) a' lists r) → Told cap (rules.first_entries im cap) a' lists r
  unfolding rules.first_entries
  first_told a a' lists h k is_k r f =
      let e = after_ok (rules.add_entry cap (addresses.key (images.code_number im) (images.code_section im).base)) (sym h.is ∙ ap (λ (s : List images.Symbol). rules.add_symbols im cap s []) all) in
      rw (e, ← is_k) (f h.entries h.holds)
