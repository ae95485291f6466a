use Rattle.vino_host.proofs.Storing.{image_put}
use Rattle.vino_host.proofs.loading.put_image.Goals as goal

pub returns : goal.returns
returns c =
    image_put c.args.image.now c.args.plugin.now c.put_content.new.plugin c.put.new.to c.digest-digest.result
    c.room_for-room.result c.room_for-room.ensures.room c.digest-digest.ensures c.put_content.ensures.front
    c.put_content.ensures.back c.requires c.put.ensures.front c.put.ensures.back
