use Rattle.analyzer.proofs.AnalyzerState.add_entry.Goals as goal

pub returns : goal.returns
returns c cap lists es h = let st = c.in_ok-place_of.ensures.placed cap lists es h in record { entries = st.entries; is = st.is; holds = st.holds }
