mod OnePassLaws
mod TextLaws
