use Rattle.std.proofs.Common.{◌∙◌}
use Rattle.vino_host.proofs.Storing.{content_put}
use Rattle.vino_host.proofs.loading.put_content.Goals as goal

pub returns-clause-front : goal.returns-clause-front
returns-clause-front c =
    content_put c.args.image.now c.args.plugin.now c.put.new.to c.put_code.new.to c.put-2.new.to
    c.first_words.result c.body.result.now c.code-code.result.now c.first_words.ensures
    (c.code-code.ensures.code ∙ c.code.ensures.code) c.body.ensures.body
    c.put.ensures.front c.put_code.ensures.front c.put-2.ensures.front
