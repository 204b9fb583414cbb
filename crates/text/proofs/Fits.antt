-- Texts that fit the bytes that they are written to, and what then stands in front. Assumes nothing.
use Rattle.std.proofs.Common.{◌≡◌, ℕ, ◌+◌, ◌*◌, ◌≤◌, List, [], ◌∷◌, length, take, Option, sym, ap, ◌∙◌, arith}
use Rattle.std.proofs.lemmas.List.{take_at}
use Rattle.netlist.specs.declared.finding.Finding.{Finding}
use Rattle.netlist.specs.declared.finding.Finding.TheVariants.{Clean, Differs}
use Rattle.text.specs.declared.writer.Summary.{Summary}
use Rattle.text.specs.Reports.{Written, Unwritten, fault_row, summary_row, findings_text, finding_size, findings_size}
use Rattle.text.proofs.Found.{summary_size, fault_size, findings_sized}

-- a text that was written at the front
pub in_front : (text : List ℕ) (before after : List ℕ) (end : ℕ) → Written text 0 before after end → take end after ≡ text
in_front text before after end w =
    let e : end ≡ length text = (let q = w.end_is in omega arith) in
    ap (take end) w.after_is ∙ take_at text _ end (sym e)

pub fault_fits : (number netlist n : ℕ) (line : Option ℕ) (before after : List ℕ) → n ≤ length before → 25 ≤ n → Unwritten (fault_row number netlist line) 0 before after → ⊥
fault_fits number netlist n line before after room few u = let l = u.long in let r = fault_size number netlist line in omega arith

pub summary_fits : (pairs : ℕ) (word : Summary) (number n : ℕ) (before after : List ℕ) → n ≤ length before → 19 ≤ n → Unwritten (summary_row pairs word number) 0 before after → ⊥
summary_fits pairs word number n before after room few u = let l = u.long in let s = summary_size pairs word number in omega arith

size_bound : (f : Finding) (width : ℕ) → width ≤ 60 → finding_size width f ≤ 73
size_bound Clean width h = omega arith
size_bound (Differs d) width h = omega arith

sizes_bound : (fs : List Finding) (width : ℕ) → width ≤ 60 → findings_size width fs ≤ 73 * length fs
sizes_bound [] width h = omega arith
sizes_bound (f ∷ fs) width h = let a = size_bound f width h in let b = sizes_bound fs width h in omega arith

pub findings_fit : (letter : ℕ → ℕ) (width at lines : ℕ) (fs : List Finding) (before after : List ℕ) → width ≤ 60 → length fs ≤ lines → at ≤ 19 → 19 + 73 * lines ≤ length before → Unwritten (findings_text letter width 0 fs) at before after → ⊥
findings_fit letter width at lines fs before after narrow few low room u =
    let l = u.long in
    let s = findings_sized letter width 0 fs in
    let b = sizes_bound fs width narrow in
    omega arith
