use Rattle.pcapng_file.proofs.Contents.{other_part}
use Rattle.pcapng_file.proofs.content.read_content.Goals as goal

pub returns-in_ok-skip-in-Other-clause-after : goal.returns-in_ok-skip-in-Other-clause-after
returns-in_ok-skip-in-Other-clause-after g c =
    let front = rw c.in-Other.is at c.requires.front in
    other_part c.args.mark.now c.args.frame c.args.front.now c.args.pull.now c.skip.new.pull (g.F.Files.disk c.args.files.now) (g.F.Files.disk c.skip.new.files) c.in-Other.is front c.in_ok-skip-in-Other.ensures.after
