use Rattle.std.proofs.Common.{string_bytes}
use Rattle.answer_stats.proofs.Adding.{all_added}
use Rattle.answer_stats.proofs.stats.add_sizes.Goals as goal

pub returns : goal.returns
returns c = λ whole.
    let bytes = c.add_size-6.ensures whole in
    let input = c.add.ensures bytes.0 in
    let locks = c.add_size-5.ensures input.0 in
    let instructions = c.add_size-4.ensures locks.0 in
    let routines = c.add_size-3.ensures instructions.0 in
    let devices = c.add_size-2.ensures routines.0 in
    let drivers = c.add_size.ensures devices.0 in (
      drivers.0,
      all_added c.args.sizes.now (string_bytes c.args.words.now.text)
          (string_bytes c.add_size.new.words.text) (string_bytes c.add_size-2.new.words.text)
          (string_bytes c.add_size-3.new.words.text) (string_bytes c.add_size-4.new.words.text)
          (string_bytes c.add_size-5.new.words.text) (string_bytes c.add.new.self.text)
          (string_bytes c.add_size-6.new.words.text) drivers.1 devices.1 routines.1 instructions.1
          locks.1 (rw c.input_name.ensures at input.1) bytes.1,
    )
