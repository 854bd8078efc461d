use Rattle.std.proofs.Common.{◌≡◌, ◌++◌, drop, string_bytes}
use Rattle.report_sarif.specs.Uri.{all_behind, uri_of}
use Rattle.report_sarif.proofs.uri.uri_of.Given as goal

abbrev pub invariant-loop-byte : goal.invariant-loop-byte
invariant-loop-byte l =
    string_bytes l.uri ++ all_behind l.slashed (drop l.byte-index l.file) ≡ uri_of l.file
