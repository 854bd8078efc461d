use Rattle.std.proofs.Common.{◌++◌, string_bytes}
use Rattle.std.specs.Prelude.{codes, decimal}
use Rattle.answer_stats.proofs.Adding.{more}
use Rattle.answer_stats.proofs.stats.add_size.Goals as goal

pub returns : goal.returns
returns c = λ whole.
    let end = c.add-3.ensures whole in
    let number = c.add_number.ensures end.0 in
    let space = c.add-2.ensures number.0 in
    let name = c.add.ensures space.0 in
    let size = decimal c.args.size in
    let first = string_bytes c.add.new.self.text in
    let second = string_bytes c.add-2.new.self.text in
    let last = string_bytes c.add-3.new.self.text in
    let behind = more second size (codes "\n") (string_bytes c.add_number.new.self.text) last
    number.1 end.1 in
    let later = more first (codes " ") (size ++ codes "\n") second last space.1 behind in (
      name.0,
      more (string_bytes c.args.words.now.text) c.args.name.now (codes " " ++ (size ++ codes "\n"))
          first last name.1 later,
    )
