use Rattle.std.proofs.Common.{◌≡◌, ◌+◌, length, Ok, Err, refl, ◌∙◌, subst, arith}
use Rattle.std.proofs.lemmas.Result.{err_from_is_err_and}
use Rattle.std.proofs.lemmas.Bool.Decides.{not_from_Decides}
use Rattle.text.specs.declared.fault.PairFault.TheVariants.{First, Second, Trailing, Heads}
use Rattle.text.specs.Readings.{Reading}
use Rattle.text.specs.Pairs.{size}
use Rattle.text.proofs.Steps.{mapped_ok, mapped_err}
use Rattle.text.proofs.Twofold.{accepted_fits, pair_text, reads_pair, pair_refused, both_read}
use Rattle.text.proofs.pairs.read_pair.Goals as goal

pub returns-in_err-one : goal.returns-in_err-one
returns-in_err-one c =
    let x = mapped_err (λ e d. d ≡ First e) c.read_netlist.result c.in_err-one.field-0.0 c.in_err-one.ensures.cases in
    let p = err_from_is_err_and c.from_residual.result c.from_residual.ensures.1 in
    pair_refused c.args.bytes.now c.args.first.now c.read_netlist.new.lines c.args.second.now c.args.second.now c.from_residual.result _ (First x.0) p.1 (p.2 ∙ x.2)
    (record { refused = subst (Reading c.args.bytes.now 0 c.args.first.now c.read_netlist.new.lines) x.1 c.read_netlist.ensures.reading; kept = refl })

pub returns-in_err-two : goal.returns-in_err-two
returns-in_err-two c =
    let bytes = c.args.bytes.now in
    let y = c.args.second.now in
    let y' = c.read_netlist-2.new.lines in
    let g = c.in_ok-one.one in
    let x = mapped_err (λ e d. d ≡ Second e) c.read_netlist-2.result c.in_err-two.field-0.0 c.in_err-two.ensures.cases in
    let p = err_from_is_err_and c.from_residual-in_err-two.result c.from_residual-in_err-two.ensures.1 in
    pair_refused bytes c.args.first.now c.read_netlist.new.lines y y' c.from_residual-in_err-two.result _ (Second x.0) p.1 (p.2 ∙ x.2)
    (record {
      header = g;
      first = subst (Reading bytes 0 c.args.first.now c.read_netlist.new.lines) (mapped_ok _ c.read_netlist.result c.in_ok-one.one c.in_ok-one.ensures.cases) c.read_netlist.ensures.reading;
      refused = subst (λ n. Reading bytes n y y' (Err x.0)) c.text_size-from.ensures (subst (Reading bytes c.text_size-from.result y y') x.1 c.read_netlist-2.ensures.reading);
    })

pub returns-then-end-bytes : goal.returns-then-end-bytes
returns-then-end-bytes c =
    let bytes = c.args.bytes.now in
    let x = c.args.first.now in
    let x' = c.read_netlist.new.lines in
    let y = c.args.second.now in
    let y' = c.read_netlist-2.new.lines in
    let g = c.in_ok-one.one in
    let k = c.in_ok-two.two in
    let b = both_read bytes x x' y y' c.read_netlist.result c.read_netlist-2.result g k c.text_size-from.result c.read_netlist.ensures.reading (mapped_ok _ c.read_netlist.result c.in_ok-one.one c.in_ok-one.ensures.cases)
    c.text_size-from.ensures c.read_netlist-2.ensures.reading (mapped_ok _ c.read_netlist-2.result c.in_ok-two.two c.in_ok-two.ensures.cases) in
    reads_pair bytes x x' y y' (Err Trailing) (record { one = g; two = k; both = b; more = omega arith })

pub returns-then-not-alike : goal.returns-then-not-alike
returns-then-not-alike c =
    let bytes = c.args.bytes.now in
    let x = c.args.first.now in
    let x' = c.read_netlist.new.lines in
    let y = c.args.second.now in
    let y' = c.read_netlist-2.new.lines in
    let g = c.in_ok-one.one in
    let k = c.in_ok-two.two in
    let b = both_read bytes x x' y y' c.read_netlist.result c.read_netlist-2.result g k c.text_size-from.result c.read_netlist.ensures.reading (mapped_ok _ c.read_netlist.result c.in_ok-one.one c.in_ok-one.ensures.cases)
    c.text_size-from.ensures c.read_netlist-2.ensures.reading (mapped_ok _ c.read_netlist-2.result c.in_ok-two.two c.in_ok-two.ensures.cases) in
    let f = accepted_fits bytes (size g) y y' k b.second in
    reads_pair bytes x x' y y' (Err Heads)
    (record { one = g; two = k; both = b; ended = omega arith; differ = not_from_Decides c.alike.result c.alike.ensures c.if-not-alike.true })

pub returns : goal.returns
returns c =
    let bytes = c.args.bytes.now in
    let x = c.args.first.now in
    let x' = c.read_netlist.new.lines in
    let y = c.args.second.now in
    let y' = c.read_netlist-2.new.lines in
    let g = c.in_ok-one.one in
    let k = c.in_ok-two.two in
    let b = both_read bytes x x' y y' c.read_netlist.result c.read_netlist-2.result g k c.text_size-from.result c.read_netlist.ensures.reading (mapped_ok _ c.read_netlist.result c.in_ok-one.one c.in_ok-one.ensures.cases)
    c.text_size-from.ensures c.read_netlist-2.ensures.reading (mapped_ok _ c.read_netlist-2.result c.in_ok-two.two c.in_ok-two.ensures.cases) in
    let f = accepted_fits bytes (size g) y y' k b.second in
    let e : size g + size k ≡ length bytes = omega arith in
    reads_pair bytes x x' y y' (Ok (record { first = g; second = k }))
    (record { both = b; alike = c.alike.ensures.0 c.if-not-alike.false; ended = e; text = pair_text bytes x x' y y' g k b.first b.second e })
