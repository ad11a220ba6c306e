use Rattle.std.proofs.Common.{◌≡◌, ◌+◌, ◌<◌, ◌≤◌, length, get_or, Ok, Err, arith, rules}
use Rattle.files.specs.declared.number.NumberFault.TheVariants.{Missing, Padded, TooLong}
use Rattle.files.proofs.Encoding.{number_read}
use Rattle.files.proofs.Scanning.{scan_fits, scan_missing, scan_padded, scan_more, scan_last, scan_long}
use Rattle.files.proofs.number.read_number.Goals as goal

pub returns-in_default : goal.returns-in_default
returns-in_default c =
    let end : length c.args.bytes.now ≤ c.args.at + c.loop-group.group = search rules in
    number_read _ _ (Err (Missing _)) (scan_missing _ _ _ _ c.loop-group.invariant (omega arith) end)

pub returns-then-byte : goal.returns-then-byte
returns-then-byte c =
    let inside : c.args.at + c.loop-group.group < length c.args.bytes.now = search rules in
    let reads : c.in-Some.field-0.now ≡ get_or c.args.bytes.now (c.args.at + c.loop-group.group) 0 = c.in-Some.ensures.lookup.4 (omega arith) 0 in
    number_read _ _ (Err (Padded _)) (scan_padded _ _ _ _ c.loop-group.invariant (omega arith) _ inside reads (omega arith) c.if-byte.true)

pub overflow_mul-value : goal.overflow_mul-value
overflow_mul-value c = let fits = scan_fits _ _ _ _ c.loop-group.invariant (omega arith) in omega arith

pub overflow_add-value : goal.overflow_add-value
overflow_add-value c = let fits = scan_fits _ _ _ _ c.loop-group.invariant (omega arith) in omega (arith, c.from.ensures)

pub returns-then-byte-lt128 : goal.returns-then-byte-lt128
returns-then-byte-lt128 c =
    let inside : c.args.at + c.loop-group.group < length c.args.bytes.now = search rules in
    let reads : c.in-Some.field-0.now ≡ get_or c.args.bytes.now (c.args.at + c.loop-group.group) 0 = c.in-Some.ensures.lookup.4 (omega arith) 0 in
    rw c.from.ensures
    (number_read _ _ (Ok (record { value = _; next = _ })) (scan_last _ _ _ _ c.loop-group.invariant (omega arith) _ inside reads c.if-byte-lt128.true))

pub loop-group-preserved : goal.loop-group-preserved
loop-group-preserved c =
    let inside : c.args.at + c.loop-group.group < length c.args.bytes.now = search rules in
    let reads : c.in-Some.field-0.now ≡ get_or c.args.bytes.now (c.args.at + c.loop-group.group) 0 = c.in-Some.ensures.lookup.4 (omega arith) 0 in
    rw c.from.ensures
    (scan_more _ _ _ _ c.loop-group.invariant (omega arith) _ inside reads c.if-byte-lt128.false (search rules) (search rules))

pub returns : goal.returns
returns c = number_read _ _ (Err (TooLong _)) (scan_long _ _ _ _ c.loop-group.invariant (omega arith))
