use Rattle.std.proofs.Common.{◌≡◌, ◌++◌, drop}
use Rattle.json.specs.Tree.{items_tokens}
use Rattle.report_json.specs.Served.{numbers_json}
use Rattle.tell_json.proofs.audit.write_packets.Given as goal

abbrev pub invariant-loop-packet : goal.invariant-loop-packet
invariant-loop-packet l =
    (l.out.before ≡ l.fn.out.before)
    × (l.out.tokens ++ items_tokens (numbers_json (drop l.packet-index l.packets))
    ≡ l.fn.out.tokens ++ items_tokens (numbers_json l.packets))
