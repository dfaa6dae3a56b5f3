-- An entry put in where there is room.
use Rattle.std.proofs.Common.{◌≡◌, ◌≤◌, ℕ, length, Bool, false, arith, ap, ap₂, ◌∙◌, refl}
use Rattle.std.proofs.lemmas.Bool.Decides.{nat_tests}
use Rattle.std.specs.Prelude.{Option, None, Ok, Err}
use Rattle.std.specs.List as seqs
use Rattle.rules.specs.Ordered.{rank}
use Rattle.rules.proofs.Ordered.{rank_le}
use Rattle.rules.specs.Known.{entry_of}
use Rattle.numbers.specs.declared.Header.{Header}
use Rattle.analyzer.specs.declared.FunctionInfo.{FunctionInfo}
use Rattle.analyzer.specs.Table.{info}
use Rattle.analyzer.proofs.Rows.{known_long, infos_count}
use Rattle.analyzer.proofs.Adding.{full, fits, added}
use Rattle.analyzer.proofs.AnalyzerState.insert.Goals as goal
use Rattle.analyzer.proofs.AnalyzerState.insert.Goals.{then-is_full-via-then-is_full, then-is_full-via-else-is_full+then-at-len}

is_blank : (i : FunctionInfo) → i.slices ≡ None → i.analyzed ≡ false → i.fill_1 ≡ 0 → i.fill_2 ≡ 0 → i.fill_4 ≡ 0 → i ≡ info None false
is_blank i s b f g h =
    ap₂ (λ (o : Option Header) (a : Bool). record { slices = o; analyzed = a; fill_1 = i.fill_1; fill_2 = i.fill_2; fill_4 = i.fill_4 }) s b
    ∙ ap₂ (λ (m n : ℕ). record { slices = None; analyzed = false; fill_1 = m; fill_2 = n; fill_4 = i.fill_4 }) f g
    ∙ ap (λ (n : ℕ). record { slices = None; analyzed = false; fill_1 = 0; fill_2 = 0; fill_4 = n }) h

pub returns-then-len-min-clause-told : goal.returns-then-len-min-clause-told
returns-then-len-min-clause-told c cap lists es h place miss = full h c.args.key miss (omega arith)

pub returns-then-is_full-clause-told : goal.returns-then-is_full-clause-told
returns-then-is_full-clause-told c cap lists es h place miss =
    let known : length c.args.self.now.known ≡ length es = known_long h in
    let infos : length c.args.self.now.infos.items ≡ length es = infos_count h in
    let low : rank entry_of c.args.key es ≤ length es = rank_le entry_of c.args.key es in
    elim c.then-is_full.branch [
      | then-is_full-via-then-is_full w ↦ let all : length c.args.self.now.infos.items ≡ 1024 = grind (arith, nat_tests) in absurd (omega arith)
      | then-is_full-via-else-is_full+then-at-len w ↦ absurd (omega arith)
    ]

pub returns-in_err-insert-clause-told : goal.returns-in_err-insert-clause-told
returns-in_err-insert-clause-told c cap lists es h place miss =
    let no = fits h c.args.key miss (omega arith) {X = Unit {0}} c.insert.new.self (Err c.in_err-insert.field-0.0) c.in_err-insert.ensures in
    absurd cc

pub returns-clause-told : goal.returns-clause-told
returns-clause-told c cap lists es h place miss =
    let yes = fits h c.args.key miss (omega arith) {X = Unit {0}} c.insert.new.self (Ok tt) c.in_ok-insert.ensures in
    added h c.args.key miss (omega arith) c.args.at place _ refl (cc) (c.insert-2.ensures.items ∙ ap (seqs.insert c.args.self.now.infos.items c.args.at) (is_blank c.default.result c.default.ensures.0 c.default.ensures.1.0 c.default.ensures.1.1.0 c.default.ensures.1.1.1.0 c.default.ensures.1.1.1.1))
