-- Case by case: 11, 13, or the hop with the last address in the lent bytes (`HeldCarried`).
use Rattle.std.proofs.Common.{rules, arith, sym, ◌∙◌, ◌≡◌, Err}
use Rattle.host.proofs.HeldCarried.{held_refused, held_short, held_carried}
use Rattle.host.proofs.held.Goals as goal

pub returns-in_err-found : goal.returns-in_err-found
returns-in_err-found c =
    let gave : c.from_residual.result ≡ Err c.in_err-found.field-0.0 = search rules in
    rw gave (held_refused _ _ _ c.bytes_lookup.ensures c.in_err-found.was _)

pub returns-then-out-lt4 : goal.returns-then-out-lt4
returns-then-out-lt4 c = held_short _ _ _ c.bytes_lookup.ensures c.in_ok-found.was _ (omega arith)

pub returns : goal.returns
returns c = rw c.put_address.ensures (held_carried _ _ _ c.bytes_lookup.ensures c.in_ok-found.was _ (omega arith))
