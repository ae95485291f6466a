mod Digits
mod ImageLists
mod Loading
