use Rattle.bx_patch.proofs.preview.image.ChangedImage.searched.Goals as goal

pub searched-requires : goal.searched-requires
searched-requires g c = rw (← c.self.view_is) at c.requires
